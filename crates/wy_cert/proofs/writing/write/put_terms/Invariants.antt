use Rattle.std.proofs.Common.{◌≡◌, ◌++◌, drop}
use Rattle.wy_term_text.specs.wy_term.Nodes.{tree_at}
use Rattle.wy_cert.specs.writing.Text.{texts, more_text}
use Rattle.wy_cert.proofs.writing.write.put_terms.Given as goal

abbrev pub invariant-loop-t : goal.invariant-loop-t
invariant-loop-t l = l.out.items ++ texts (λ k. more_text (tree_at l.terms k)) (drop l.t-index l.others) ≡ l.initial.out.items ++ texts (λ k. more_text (tree_at l.terms k)) l.others
