-- What forms are worth, where variables stand for whole numbers.
use Rattle.std.specs.Prelude.{◌≡◌, ℕ, List, [], ◌∷◌, ℤ, pos, ◌+ℤ◌, ◌*ℤ◌}
use Rattle.wy_term.specs.Term.{Term}
use Rattle.wy_term.specs.Meaning.{Names, sense, at_most}
use Rattle.wy_lin.specs.Linear.{Linear}
use Rattle.wy_lin.specs.Combination.{form_at}

abbrev pub worth_of_parts : {V : Type 0} → (V → ℤ) → List (ℤ × V) → ℤ
worth_of_parts values [] = pos 0
worth_of_parts values (p ∷ ps) = p.0 *ℤ values p.1 +ℤ worth_of_parts values ps

-- the number that a form is
abbrev pub worth : {V : Type 0} → (V → ℤ) → Linear V → ℤ
worth values f = worth_of_parts values f.parts +ℤ f.constant

-- the number that an Int term means
abbrev pub number_of : Names → Term → ℤ
number_of names t = (sense names t).number

-- whatever names stand for, the form is the number that the term means
abbrev pub IsWorth : Linear Term → Term → Type 0
IsWorth f t = (names : Names) → worth (number_of names) f ≡ number_of names t

-- whatever names stand for, the form is at least 0 exactly where the literal holds
abbrev pub SaysAsMuch : Linear Term → Term → Type 0
SaysAsMuch f literal = (names : Names) → at_most (pos 0) (worth (number_of names) f) ≡ (sense names literal).truth

-- the sum of these multiples of what forms are worth
abbrev pub total : (ℕ → ℤ) → List (Linear ℕ) → List (ℕ × ℕ) → ℤ
total values forms [] = pos 0
total values forms (m ∷ ms) = pos m.0 *ℤ worth values (form_at forms m.1) +ℤ total values forms ms

-- whatever the variables stand for, the form is that sum
abbrev pub IsTotal : Linear ℕ → List (Linear ℕ) → List (ℕ × ℕ) → Type 0
IsTotal f forms ms = (values : ℕ → ℤ) → worth values f ≡ total values forms ms
