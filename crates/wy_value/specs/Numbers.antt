-- Numbers in decimal, and the numbers that are `int`s.
use Rattle.std.specs.Prelude.{ℕ, ℤ, pos, neg_ℤ, int_le, Bool, ◌&&◌, List}
pub use Rattle.wy_reading.specs.ListGrammar.{number_from}
use Rattle.wy_value.specs.declared.bounds.TheConstants.{INT_MIN, INT_MAX}

-- the number without a sign, and with a minus
abbrev pub plain : List ℕ → ℤ
plain ds = pos (number_from 0 ds)

abbrev pub negated : List ℕ → ℤ
negated ds = neg_ℤ (pos (number_from 0 ds))

-- lies from INT_MIN to INT_MAX
abbrev pub is_int : ℤ → Bool
is_int z = int_le INT_MIN z && int_le z INT_MAX
