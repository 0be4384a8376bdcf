-- The coefficients of forms at places of a list, and which variable goes first.
use Rattle.std.specs.Prelude.{ℕ, suc, ◌*◌, List, [], ◌∷◌, ◌++◌, nat_eq, nat_lt, Bool, true, ◌&&◌, if◌then◌else◌, ℤ, pos, ◌+ℤ◌, int_lt, Option, Some, None}
use Rattle.std.specs.Ordering.{int_eq}
use Rattle.std.specs.Map.{lookup}
use Rattle.indexmap.specs.IndexMap.{insert_entry}
use Rattle.wy_lin.specs.Linear.{Linear, coefficient}
use Rattle.wy_lin.specs.Combination.{form_at}
use Rattle.wy_lin_eliminate.specs.declared.sides.Sides.{Sides}

-- the coefficient of a variable in the form at a place
abbrev pub coefficient_at : List (Linear ℕ) → ℕ → ℕ → ℤ
coefficient_at all v i = coefficient nat_eq (form_at all i).parts v

-- ---- equal and opposite coefficients, whatever the order of the parts; a variable that has none has 0

-- each part's coefficient is that of the other parts
abbrev pub agrees : List (ℤ × ℕ) → List (ℤ × ℕ) → Bool
agrees [] qs = true
agrees (p ∷ ps) qs = int_eq p.0 (coefficient nat_eq qs p.1) && agrees ps qs

-- the coefficients are equal
abbrev pub agree : List (ℤ × ℕ) → List (ℤ × ℕ) → Bool
agree ps qs = agrees ps qs && agrees qs ps

abbrev pub gives_zero : ℤ → ℤ → Bool
gives_zero a b = int_eq (a +ℤ b) (pos 0)

-- each part's coefficient and that of the other parts give 0
abbrev pub opposes : List (ℤ × ℕ) → List (ℤ × ℕ) → Bool
opposes [] qs = true
opposes (p ∷ ps) qs = gives_zero p.0 (coefficient nat_eq qs p.1) && opposes ps qs

-- the coefficients are opposite
abbrev pub opposite : List (ℤ × ℕ) → List (ℤ × ℕ) → Bool
opposite ps qs = opposes ps qs && opposes qs ps

-- ---- lower and upper forms

-- one place more, by the sign of the coefficient
abbrev pub with_side : List (Linear ℕ) → ℕ → Sides → ℕ → Sides
with_side all v s i =
    if int_lt (pos 0) (coefficient_at all v i) then record s { lower = s.lower ++ i ∷ [] }
    else (if int_lt (coefficient_at all v i) (pos 0) then record s { upper = s.upper ++ i ∷ [] }
    else record s { without = s.without ++ i ∷ [] })

abbrev pub sides_from : List (Linear ℕ) → ℕ → Sides → List ℕ → Sides
sides_from all v s [] = s
sides_from all v s (i ∷ is) = sides_from all v (with_side all v s i) is

abbrev pub sides : List (Linear ℕ) → ℕ → List ℕ → Sides
sides all v is = sides_from all v (record { lower = []; upper = []; without = [] }) is

-- ---- the variable that goes first

-- how many lower and how many upper forms a variable has
abbrev pub Counts : Type 0
Counts = ℕ × ℕ

abbrev pub or_none : Option Counts → Counts
or_none None = (0, 0)
or_none (Some n) = n

abbrev pub counts_of : List (ℕ × Counts) → ℕ → Counts
counts_of es v = or_none (lookup (nat_eq v) es)

-- one more, by the sign of the coefficient
abbrev pub one_more : ℤ → Counts → Counts
one_more c n = if int_lt c (pos 0) then (n.0, suc n.1) else (suc n.0, n.1)

-- the variables with their counts, by first appearance, with one part more; a part with 0 is none
abbrev pub counted : List (ℕ × Counts) → ℤ × ℕ → List (ℕ × Counts)
counted es p = if int_eq p.0 (pos 0) then es else insert_entry nat_eq es p.1 (one_more p.0 (counts_of es p.1))

abbrev pub counted_parts : List (ℕ × Counts) → List (ℤ × ℕ) → List (ℕ × Counts)
counted_parts es [] = es
counted_parts es (p ∷ ps) = counted_parts (counted es p) ps

abbrev pub counted_from : List (Linear ℕ) → List (ℕ × Counts) → List ℕ → List (ℕ × Counts)
counted_from all es [] = es
counted_from all es (i ∷ is) = counted_from all (counted_parts es (form_at all i).parts) is

-- the variables of the forms at these places
abbrev pub variables : List (Linear ℕ) → List ℕ → List (ℕ × Counts)
variables all is = counted_from all [] is

-- the one with fewer pairs of a lower and an upper form, the first of equals, beside its number of pairs
abbrev pub better : Option (ℕ × ℕ) → ℕ × Counts → Option (ℕ × ℕ)
better None e = Some (e.0, e.1.0 * e.1.1)
better (Some b) e = if nat_lt (e.1.0 * e.1.1) b.1 then Some (e.0, e.1.0 * e.1.1) else Some b

abbrev pub best_from : Option (ℕ × ℕ) → List (ℕ × Counts) → Option (ℕ × ℕ)
best_from b [] = b
best_from b (e ∷ es) = best_from (better b e) es

-- the variable with the fewest pairs, if there is a variable
abbrev pub next_variable : List (ℕ × Counts) → Option (ℕ × ℕ)
next_variable es = best_from None es
