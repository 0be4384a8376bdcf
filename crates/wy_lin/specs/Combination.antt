-- The sum of multiples of forms.
use Rattle.std.specs.Prelude.{ℕ, List, [], ◌∷◌, nat_eq, Option, Some, slice_index_or}
use Rattle.wy_lin.specs.declared.arithmetic.Factor.TheVariants.{Times}
use Rattle.wy_lin.specs.Linear.{◌>>=◌, Linear, nothing, plus}

-- the form at a place, from 0
abbrev pub form_at : List (Linear ℕ) → ℕ → Linear ℕ
form_at forms i = slice_index_or forms i nothing

-- a form, with these multiples of forms more, from the left; each multiplier has the place of its form
abbrev pub combined_from : List (Linear ℕ) → Linear ℕ → List (ℕ × ℕ) → Option (Linear ℕ)
combined_from forms f [] = Some f
combined_from forms f (m ∷ ms) = plus nat_eq f (Times m.0) (form_at forms m.1) >>= λ g. combined_from forms g ms

-- the sum of these multiples of forms
abbrev pub combined : List (Linear ℕ) → List (ℕ × ℕ) → Option (Linear ℕ)
combined forms ms = combined_from forms nothing ms
