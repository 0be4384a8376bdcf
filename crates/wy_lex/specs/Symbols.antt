-- The characters of a source, each with the byte offset where it stands, and classes of them. A character is its number.
use Rattle.std.specs.Prelude.{ℕ, ◌+◌, Bool, true, false, not, ◌&&◌, ◌||◌, ◌==◌, nat_le, List, [], ◌∷◌, length, ◌-◌, Option, Some, None, slice_get, if◌then◌else◌}
use Rattle.std.specs.Str.{chars, encode_utf8_all}
use Rattle.std.specs.Char.{encode_utf8}
use Rattle.wy_data.specs.Words.{is_start, is_part}
use Rattle.wy_reading.specs.Rule.{heads, among}
use Rattle.wy_lex.specs.declared.symbol.Symbol.{Symbol}
use Rattle.wy_lex.specs.declared.symbol.Character.{Character}
use Rattle.wy_lex.specs.declared.symbol.Character.TheVariants as class

-- ---- classes

-- a space or a tab
abbrev pub is_blank : ℕ → Bool
is_blank c = (c == 32) || (c == 9)

abbrev pub is_digit : ℕ → Bool
is_digit c = nat_le 48 c && nat_le c 57

-- stands in a string as itself: from 32 to 126, but neither `"` nor `\`
abbrev pub is_plain : ℕ → Bool
is_plain c = nat_le 32 c && (nat_le c 126 && (not (c == 34) && not (c == 92)))

-- ( ) [ ] { } , : ; . = ! < > + - * % & |
abbrev pub signs : List ℕ
signs = 40 ∷ 41 ∷ 91 ∷ 93 ∷ 123 ∷ 125 ∷ 44 ∷ 58 ∷ 59 ∷ 46 ∷ 61 ∷ 33 ∷ 60 ∷ 62 ∷ 43 ∷ 45 ∷ 42 ∷ 37 ∷ 38 ∷ 124 ∷ []

abbrev pub is_sign : ℕ → Bool
is_sign c = among signs c

abbrev pub is_other : ℕ → Bool
is_other c = is_digit c || ((c == 34) || is_sign c)

abbrev pub is_piece : ℕ → Bool
is_piece c = is_start c || (is_other c || ((c == 47) || (is_blank c || (c == 10))))

-- the character is in the class
abbrev pub has : Character → ℕ → Bool
has class.Nothing c = false
has class.Any c = true
has (class.Is d) c = c == d
has class.Blank c = is_blank c
has class.LineEnd c = c == 10
has class.NoLineEnd c = not (c == 10)
has class.Start c = is_start c
has class.Part c = is_part c
has class.Digit c = is_digit c
has class.Plain c = is_plain c
has class.Inside c = is_plain c || (c == 92)
has class.Sign c = is_sign c
has class.Other c = is_other c
has class.Remark c = (c == 47) || (c == 42)
has class.Piece c = is_piece c

abbrev pub holds : Character → Symbol → Bool
holds x s = has x s.character

-- ---- the characters of a source

-- a carriage return directly before a line feed ends the line, and the line feed behind it a line of its own, which is blank
abbrev pub line_end : ℕ → List ℕ → ℕ
line_end c cs = if (c == 13) && heads (λ d. d == 10) cs then 10 else c

-- the characters, the first of which stands at the offset
abbrev pub placed_from : ℕ → List ℕ → List Symbol
placed_from at [] = []
placed_from at (c ∷ cs) = record { character = line_end c cs; at = at } ∷ placed_from (at + length (encode_utf8 c)) cs

-- the characters of the bytes
unfoldable pub symbols : List ℕ → List Symbol
symbols bytes = placed_from 0 (chars bytes)

-- ---- what characters spell

abbrev pub codes_of : List Symbol → List ℕ
codes_of [] = []
codes_of (s ∷ w) = s.character ∷ codes_of w

-- their bytes
abbrev pub bytes_of : List Symbol → List ℕ
bytes_of w = encode_utf8_all (codes_of w)

-- where they begin
abbrev pub place : List Symbol → ℕ
place [] = 0
place (s ∷ w) = s.at

abbrev pub place_or : ℕ → Option Symbol → ℕ
place_or size None = size
place_or size (Some s) = s.at

-- where the last so many characters begin, in a source of so many bytes
abbrev pub offset : ℕ → List Symbol → ℕ → ℕ
offset size i left = place_or size (slice_get i (length i - left))
