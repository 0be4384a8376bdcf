-- One level of nesting in the example, and its numbers.
use Rattle.std.proofs.Common.{◌≡◌, ℕ, zero, suc, ◌+◌, ◌-◌, ◌*◌, ◌≤◌, Bool, true, false, List, [], ◌∷◌, refl, arith}
use Rattle.wy_reading.specs.declared.example.Byte.TheVariants.{Is}
use Rattle.wy_reading.specs.Rule.{heads}
use Rattle.wy_reading.specs.ListGrammar.{has, number_from}
use Rattle.wy_reading.specs.ListReading.{item_in, bracketed, plain}

pub item_next : (n m : ℕ) (s : Bool) (i : List ℕ) → n ≡ suc m → heads (has (Is 91)) i ≡ true → item_in n s i ≡ bracketed (item_in m s) i
unfolding item_in
item_next n m s i e h = rw (e, h) refl

pub item_plain : (n : ℕ) (s : Bool) (i : List ℕ) → heads (has (Is 91)) i ≡ false → item_in n s i ≡ plain s i
unfolding item_in
item_plain zero s i h = rw h refl
item_plain (suc n) s i h = rw h refl

pub ruleset levels = (item_next, item_plain)

-- more digits make no smaller number
pub number_grows : (n : ℕ) (ds : List ℕ) → n ≤ number_from n ds
number_grows n [] = omega arith
number_grows n (d ∷ ds) = let h = number_grows (n * 10 + (d - 48)) ds in omega (arith, h)
