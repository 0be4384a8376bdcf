use Rattle.std.proofs.Common.{length}
use Rattle.wy_check_nodes.specs.wy_term.Nodes.{tree_at}
use Rattle.wy_check_splits.proofs.NumbersLemmas.{counts_more, over_at}
use Rattle.wy_check_splits.proofs.numbers.take_all.Goals as goal

pub loop-i-preserved : goal.loop-i-preserved
loop-i-preserved c = λ ns counts. counts_more c.take_term.new.taken (tree_at c.args.terms.now) c.args.signed.now.keys c.loop-i.i c.term_at-t.result ns c.term_at-t.ensures (c.in_ok-take_term.ensures _ (c.loop-i.invariant ns counts))

pub take_term-requires : goal.take_term-requires
take_term-requires c = over_at (length c.args.terms.now) c.args.signed.now.keys c.loop-i.i c.term_at-t.result c.requires c.term_at-t.ensures
