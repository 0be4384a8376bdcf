use Rattle.std.proofs.Common.{sym, subst, take}
use Rattle.wy_term_subst.specs.View.{Counts, noted_numbers}
use Rattle.wy_term_subst.proofs.NameLemmas.{noted_more}
use Rattle.wy_term_subst.proofs.names.take_numbers.Goals as goal

pub loop-k-preserved : goal.loop-k-preserved
loop-k-preserved c = λ ns counts.
    subst (Counts c.take_number_at.new.taken) (sym (noted_more c.args.terms.now c.args.all.now ns c.loop-k.k-index 0 c.loop-k-test.true)) (c.in_ok-take_number_at.ensures (noted_numbers c.args.terms.now (take c.loop-k.k-index c.args.all.now) ns) (c.loop-k.invariant ns counts))
