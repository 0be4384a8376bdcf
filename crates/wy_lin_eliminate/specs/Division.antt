-- Greatest common divisors of coefficients, and forms divided by them.
use Rattle.std.specs.Prelude.{ℕ, zero, suc, ◌/◌, ◌%◌, List, [], ◌∷◌, ◌++◌, if◌then◌else◌, ℤ, pos, negsuc, unsigned_abs}
use Rattle.std.specs.Ordering.{int_eq}
use Rattle.wy_lin.specs.Linear.{Linear}

-- Euclid's remainders, in at most so many steps
abbrev pub gcd_within : ℕ → ℕ → ℕ → ℕ
gcd_within zero a b = a
gcd_within (suc n) a zero = a
gcd_within (suc n) a (suc b) = gcd_within n (suc b) (a % suc b)

-- the greatest common divisor; each remainder is below the one before, so there are enough steps
unfoldable pub gcd : ℕ → ℕ → ℕ
gcd a b = gcd_within (suc b) a b

-- a number that isn't below 0 keeps no sign, and each is rounded down: -1 - n becomes -1 - n / d
abbrev pub quotient : ℕ → ℤ → ℤ
quotient d (pos n) = pos (n / d)
quotient d (negsuc n) = negsuc (n / d)

-- the greatest common divisor of a number and the coefficients
abbrev pub common_from : ℕ → List (ℤ × ℕ) → ℕ
common_from g [] = g
common_from g (p ∷ ps) = common_from (gcd g (unsigned_abs p.0)) ps

-- that of the coefficients: 0 where none but 0 is there, so where the form has no variable
abbrev pub common : List (ℤ × ℕ) → ℕ
common ps = common_from 0 ps

-- the parts, with this one more where it isn't 0, divided
abbrev pub with_divided : ℕ → List (ℤ × ℕ) → ℤ × ℕ → List (ℤ × ℕ)
with_divided d done p = if int_eq p.0 (pos 0) then done else done ++ (quotient d p.0, p.1) ∷ []

-- the parts, with these more, divided; parts with 0 are left out
abbrev pub divided_from : ℕ → List (ℤ × ℕ) → List (ℤ × ℕ) → List (ℤ × ℕ)
divided_from d done [] = done
divided_from d done (p ∷ ps) = divided_from d (with_divided d done p) ps

-- the form, divided, its constant rounded down
abbrev pub lowered : ℕ → Linear ℕ → Linear ℕ
lowered d f = record { parts = divided_from d [] f.parts; constant = quotient d f.constant }
