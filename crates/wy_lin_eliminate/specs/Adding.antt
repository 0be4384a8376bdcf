-- The sum of multiples of two forms, and what adding to it gives.
use Rattle.std.specs.Prelude.{◌≡◌, ℕ, suc, List, [], ◌∷◌, nat_eq, Bool, true, false, if◌then◌else◌, ℤ, Option, Some, None}
use Rattle.wy_lin.specs.declared.arithmetic.Factor.TheVariants.{Times}
use Rattle.wy_lin.specs.Linear.{◌>>=◌, Linear, nothing, plus}

-- where, from a number on, the first part of a variable stands
abbrev pub part_from : List (ℤ × ℕ) → ℕ → ℕ → Option ℕ
part_from [] v k = None
part_from (p ∷ ps) v k = if nat_eq v p.1 then Some k else part_from ps v (suc k)

-- so many times the first form, and so many times the second
abbrev pub sum_of_two : ℕ → Linear ℕ → ℕ → Linear ℕ → Option (Linear ℕ)
sum_of_two m f n g = plus nat_eq nothing (Times m) f >>= λ h. plus nat_eq h (Times n) g >>= λ s. Some s

-- this is what there is, or there is none
abbrev pub Gives : {A : Type 0} → Bool → A → Option A → Type 0
Gives true x o = o ≡ Some x
Gives false x o = o ≡ None
