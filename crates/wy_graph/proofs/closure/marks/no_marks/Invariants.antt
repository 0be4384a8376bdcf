use Rattle.std.proofs.Common.{◌≡◌, ℕ, false, length}
use Rattle.wy_graph.specs.closure.Marks as marking
use Rattle.wy_graph.proofs.closure.marks.no_marks.Given as goal

abbrev pub invariant-loop-number : goal.invariant-loop-number
invariant-loop-number l = record { none : (n : ℕ) → marking.mark_at l.marks n ≡ false; count : length l.marks ≡ l.number }
