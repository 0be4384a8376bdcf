use Rattle.std.proofs.Common.{◌≡◌, ◌<◌, ℕ, get_or, true}
use Rattle.std.specs.Prelude.{nat_eq}
use Rattle.std.specs.List.{list_any}
use Rattle.wy_prove.proofs.plans.are_among.Given as goal

-- each number so far is one of these
abbrev pub invariant-loop-k : goal.invariant-loop-k
invariant-loop-k l = (i : ℕ) → (d : ℕ) → i < l.k-index → list_any (λ x. nat_eq x (get_or l.all i d)) l.known ≡ true
