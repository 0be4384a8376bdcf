-- Classes of characters. A character is its number.
use Rattle.std.specs.Prelude.{ℕ, Bool, ◌&&◌, ◌||◌, ◌==◌, nat_le}
use Rattle.wy_data.specs.Words.{is_start, is_part}
use Rattle.wy_value.specs.declared.character.Character.{Character}
use Rattle.wy_value.specs.declared.character.Character.TheVariants.{Space, Digit, Start, Part, Open, Number, Value, Is}

abbrev pub is_digit : ℕ → Bool
is_digit c = nat_le 48 c && nat_le c 57

-- `[` and `{`
abbrev pub is_open : ℕ → Bool
is_open c = (c == 91) || (c == 123)

-- the character is in the class
abbrev pub has : Character → ℕ → Bool
has Space c = c == 32
has Digit c = is_digit c
has Start c = is_start c
has Part c = is_part c
has Open c = is_open c
has Number c = is_digit c || (c == 45)
has Value c = is_digit c || ((c == 45) || ((c == 110) || ((c == 116) || ((c == 102) || is_open c))))
has (Is d) c = c == d
