use Rattle.std.proofs.Common.{◌≡◌, ℕ, ◌<◌, ◌≤◌, All, length, map}
use Rattle.wy_term_text.specs.wy_term.Nodes.{tree_at}
use Rattle.wy_cert.specs.Only.{GoesOn}
use Rattle.wy_cert.specs.Arguments.{AreArguments}
use Rattle.wy_cert.proofs.arguments.arguments.Given as goal

abbrev pub invariant-loop-turn : goal.invariant-loop-turn
invariant-loop-turn l = record {
  goes : GoesOn (map (tree_at l.terms) l.all.items) (AreArguments l.fn.formulas l.rest) (AreArguments l.fn.formulas l.fn.text);
  below : All (λ k. k < length l.terms) l.all.items;
  kept : (t : ℕ) → t < length l.initial.terms → tree_at l.terms t ≡ tree_at l.initial.terms t;
  grows : length l.initial.terms ≤ length l.terms;
}
