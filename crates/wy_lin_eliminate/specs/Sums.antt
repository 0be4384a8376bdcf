-- The sum of a lower and an upper form in which a variable goes, as one step of a certificate states it.
use Rattle.std.specs.Prelude.{ℕ, ◌*◌, ◌/◌, ◌^◌, List, [], ◌∷◌, ◌==◌, nat_lt, ◌&&◌, if◌then◌else◌, pos, ◌+ℤ◌, unsigned_abs, int_lt, int_le, Option, Some, None}
use Rattle.wy_lin.specs.Linear.{Linear}
use Rattle.wy_lin.specs.Combination.{form_at, combined}
use Rattle.wy_lin_eliminate.specs.declared.sums.Pair.{Pair}
use Rattle.wy_lin_eliminate.specs.Division.{gcd, common, lowered}
use Rattle.wy_lin_eliminate.specs.Variables.{coefficient_at, opposite}

-- what a pair gives
pub data Summed : Type 0 where
  -- a negative constant, by the sum with these multipliers
  refuting : List (ℕ × ℕ) → Summed
  -- a constant that isn't negative
  dropped : Summed
  -- a number of the step leaves 128 bits
  beyond : Summed
  -- a form, by this divisor and these multipliers
  cut : ℕ → List (ℕ × ℕ) → Linear ℕ → Summed

-- the multipliers by which the lower form's coefficient a and the upper form's -b give 0
abbrev pub pair_by : ℕ → ℕ → ℕ → ℕ → Pair
pair_by l u a b = record { lower = l; upper = u; times_lower = b / gcd a b; times_upper = a / gcd a b }

-- each form twice as often
abbrev pub doubled : Pair → Pair
doubled p = record { lower = p.lower; upper = p.upper; times_lower = 2 * p.times_lower; times_upper = 2 * p.times_upper }

-- the lower form comes first
abbrev pub multipliers : Pair → List (ℕ × ℕ)
multipliers p = (p.times_lower, p.lower) ∷ (p.times_upper, p.upper) ∷ []

-- the sum that a step states, where its multipliers, products and partial sums fit 128 bits
abbrev pub in_step : List (Linear ℕ) → Pair → Option (Linear ℕ)
in_step all p = if nat_lt p.times_lower (2 ^ 127) && nat_lt p.times_upper (2 ^ 127) then combined all (multipliers p) else None

-- divided by 2
abbrev pub by_two : Pair → Option (Linear ℕ) → Summed
by_two p None = beyond
by_two p (Some f) = cut 2 (multipliers p) (lowered 2 f)

-- by the greatest common divisor of the sum's coefficients: a form that has none is stated by twice the multipliers
abbrev pub by_common : List (Linear ℕ) → Pair → Linear ℕ → ℕ → Summed
by_common all p f d =
    if d == 0 then (if int_lt f.constant (pos 0) then refuting (multipliers p) else dropped)
    else (if d == 1 then by_two (doubled p) (in_step all (doubled p))
    else cut d (multipliers p) (lowered d f))

-- where the sum itself can't be stated: its variables all go where the coefficients are opposite, since they have no common divisor
abbrev pub unstated : List (Linear ℕ) → Pair → Summed
unstated all p =
    if opposite (form_at all p.lower).parts (form_at all p.upper).parts && int_le (pos 0) ((form_at all p.lower).constant +ℤ (form_at all p.upper).constant)
    then dropped else beyond

abbrev pub by_sum : List (Linear ℕ) → Pair → Option (Linear ℕ) → Summed
by_sum all p None = unstated all p
by_sum all p (Some f) = by_common all p f (common f.parts)

abbrev pub summed_by : List (Linear ℕ) → Pair → Summed
summed_by all p = by_sum all p (in_step all p)

-- the sum of the lower form at a place and the upper form at another in which the variable goes
abbrev pub summed : List (Linear ℕ) → ℕ → ℕ → ℕ → Summed
summed all v l u = summed_by all (pair_by l u (unsigned_abs (coefficient_at all v l)) (unsigned_abs (coefficient_at all v u)))
