-- Which sums of literals' forms refute, and what a cut states.
use Rattle.std.specs.Prelude.{ℕ, ◌==◌, List, [], ◌∷◌, Bool, true, false, ◌&&◌, nat_lt, if◌then◌else◌, ℤ, pos, ◌*ℤ◌, int_lt, Option, Some, None}
use Rattle.std.specs.Ordering.{int_eq}
pub use Rattle.wy_facts.specs.Schema.{zero_term}
use Rattle.wy_facts.specs.Schema.{only_if}
use Rattle.wy_lin.specs.wy_term.Term.{Term, Number, add, mul}
use Rattle.wy_lin.specs.wy_term.Data.{quotient_down}
use Rattle.wy_lin.specs.declared.arithmetic.Factor.TheVariants.{Times}
use Rattle.wy_lin.specs.Linear.{◌>>=◌, Linear, nothing}
use Rattle.wy_lin.specs.TermForm.{with, form_of_literal}
use Rattle.wy_facts.specs.Made.{made_two, is_at_most}
use Rattle.wy_check_spec.specs.judge.Node.{Literal}
use Rattle.wy_check_spec.specs.valid.Literals.{literal_at, formula_of}

-- the form of the literal with this number, where there is one and it has a form
abbrev pub form_at : List Literal → ℕ → Option (Linear Term)
form_at ls i = literal_at ls i >>= λ l. form_of_literal (formula_of l)

-- a form, with a multiple, at least the first, of a literal's form more
abbrev pub plus_literal : List Literal → Linear Term → ℕ → ℕ → Option (Linear Term)
plus_literal ls f m i = if m == 0 then None else (form_at ls i >>= λ g. with f (Times m) g)

-- a form, with these multiples of literals' forms more, from the left
abbrev pub summed_from : List Literal → Linear Term → List (ℕ × ℕ) → Option (Linear Term)
summed_from ls f [] = Some f
summed_from ls f (p ∷ ps) = plus_literal ls f p.0 p.1 >>= λ g. summed_from ls g ps

-- the sum of these multiples of literals' forms, where products and partial sums fit 128 bits
abbrev pub summed : List Literal → List (ℕ × ℕ) → Option (Linear Term)
summed ls ps = summed_from ls nothing ps

-- no variable is left
abbrev pub all_zero : List (ℤ × Term) → Bool
all_zero [] = true
all_zero (p ∷ ps) = int_eq p.0 (pos 0) && all_zero ps

-- a negative number
abbrev pub refutes : Linear Term → Bool
refutes f = int_lt f.constant (pos 0) && all_zero f.parts

-- there is a sum, and it refutes
abbrev pub is_refuting : Option (Linear Term) → Bool
is_refuting None = false
is_refuting (Some f) = refutes f

-- ---- cuts

abbrev pub divides : ℕ → ℤ → Bool
divides d c = int_eq (pos d *ℤ quotient_down c d) c

-- the number divides each coefficient
abbrev pub divides_all : ℕ → List (ℤ × Term) → Bool
divides_all d [] = true
divides_all d (p ∷ ps) = divides d p.0 && divides_all d ps

-- the products of the divided coefficients and their variables; a variable that has vanished has none
abbrev pub divided : ℕ → List (ℤ × Term) → List Term
divided d [] = []
divided d (p ∷ ps) = if int_eq p.0 (pos 0) then divided d ps else made_two mul (Number (quotient_down p.0 d)) p.1 ∷ divided d ps

-- the terms joined by `add` from the left
abbrev pub added_up : Term → List Term → Term
added_up s [] = s
added_up s (t ∷ ts) = added_up (made_two add s t) ts

-- the sum of terms and of a number; without terms it is the number
abbrev pub total_of : List Term → ℤ → Term
total_of [] z = Number z
total_of (t ∷ ts) z = made_two add (added_up t ts) (Number z)

-- the divided form is at least 0, its number rounded down
abbrev pub cut_bound : ℕ → Linear Term → Term
cut_bound d f = is_at_most zero_term (total_of (divided d f.parts) (quotient_down f.constant d))

-- what a cut by this number states of a form, whose coefficients it divides
abbrev pub cut_of : ℕ → Linear Term → Option Term
cut_of d f = only_if (nat_lt 1 d && divides_all d f.parts) (Some (cut_bound d f))
