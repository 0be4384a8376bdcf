-- One level of nesting.
use Rattle.std.proofs.Common.{◌≡◌, ℕ, zero, suc, Bool, true, false, List, refl}
use Rattle.wy_reading.specs.Rule.{heads}
use Rattle.wy_value.specs.declared.character.Character.TheVariants.{Open}
use Rattle.wy_value.specs.Characters.{has}
use Rattle.wy_value.specs.Reading.{value_in, bracketed, flat}

pub value_next : (n m : ℕ) (s : Bool) (i : List ℕ) → n ≡ suc m → heads (has Open) i ≡ true → value_in n s i ≡ bracketed s (value_in m s) i
unfolding value_in
value_next n m s i e h = rw (e, h) refl

pub value_flat : (n : ℕ) (s : Bool) (i : List ℕ) → heads (has Open) i ≡ false → value_in n s i ≡ flat s i
unfolding value_in
value_flat zero s i h = rw h refl
value_flat (suc n) s i h = rw h refl

pub ruleset levels = (value_next, value_flat)
