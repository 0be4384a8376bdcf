use Rattle.std.proofs.Common.{◌≡◌, ◌<◌, ℕ, length}
use Rattle.wy_cong.specs.congruence_closure.Congruence as congruence
use Rattle.wy_cong.proofs.congruence_closure.labels.first_labels.Given as goal

abbrev pub invariant-loop-number : goal.invariant-loop-number
invariant-loop-number l = record { count : length l.made ≡ l.number; own : (i : ℕ) → i < l.number → congruence.label_at l.made i ≡ i }
