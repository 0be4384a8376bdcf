use Rattle.std.proofs.Common.{rules, arith, ◌≤◌, length}
use Rattle.wy_term_text.specs.wy_term.Nodes.{tree_at}
use Rattle.wy_cert.proofs.writing_lemmas.WriteLemmas.{others, arguments_end_at}
use Rattle.wy_cert.proofs.writing.write.put_terms.Goals as goal

pub returns-after-loop-t : goal.returns-after-loop-t
returns-after-loop-t c =
    let some : 1 ≤ length c.args.all.now = first_of (omega arith, search rules) in
    let le : length (others c.args.all.now) ≤ c.loop-t.t-index = first_of (omega arith, search rules) in
    arguments_end_at (tree_at c.args.terms.now) c.args.all.now c.loop-t.t-index c.args.out.now.items c.put_term.new.out.items c.loop-t.out.items some le c.in_ok-put_term-in-len1-up.ensures c.loop-t.invariant
