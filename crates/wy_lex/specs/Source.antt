-- What the tokens of a source are, and why it has none. An offset counts bytes from the front.
use Rattle.std.specs.Prelude.{◌≡◌, ◌≢◌, ◌<◌, ◌≤◌, ℕ, Bool, true, false, List, length, Result, Ok, Err, ⊤, ◌⊎◌}
use Rattle.std.specs.Str.{IsUtf8, IsValidUpTo, is_utf8}
use Rattle.std.specs.Str.Lossy.{utf8_valid_len}
use Rattle.wy_reading.specs.declared.stop.Stop.{Stop}
use Rattle.wy_reading.specs.declared.stop.Stop.TheVariants as stop
use Rattle.wy_reading.specs.Mode.{Mode}
use Rattle.wy_reading.specs.Places as places
use Rattle.wy_lex.specs.declared.fault.Kind.{Kind}
use Rattle.wy_lex.specs.declared.fault.Kind.TheVariants as kind
use Rattle.wy_lex.specs.declared.fault.LexFault.{LexFault}
use Rattle.wy_lex.specs.declared.fault.LexFault.TheVariants.{NotUtf8, BadChar, BadIndent, BadNumeral, OpenComment, NoMemory}
use Rattle.wy_lex.specs.declared.token.Token.{Token}
use Rattle.wy_lex.specs.declared.symbol.Symbol.{Symbol}
use Rattle.wy_lex.specs.Symbols.{symbols, offset}
use Rattle.wy_lex.specs.Grammar.{Source}
use Rattle.wy_lex.specs.Reading.{source}

-- each check is made
abbrev pub profile : Mode
profile = record { depth = 0; strict = true }

-- ---- by the grammar

-- the bytes are cut into these tokens
abbrev pub Tokens : List ℕ → List Token → Type 0
Tokens bytes ts = IsUtf8 bytes × places.IsText (Source (length bytes)) profile (symbols bytes) ts

-- with all before it well, the fault stands at the offset
pub record Meets (bytes : List ℕ) (x : Kind) (at : ℕ) : Type 0 where
  pub text : IsUtf8 bytes
  pub left : ℕ
  pub here : at ≡ offset (length bytes) (symbols bytes) left
  pub met : (Source (length bytes) profile).meets (symbols bytes) x left

-- at the offset stands the first character after which no source goes on
pub record Leaves (bytes : List ℕ) (at : ℕ) : Type 0 where
  pub text : IsUtf8 bytes
  pub left : ℕ
  pub here : at ≡ offset (length bytes) (symbols bytes) left
  pub bad : places.FirstBad (Source (length bytes)) profile (symbols bytes) left

-- no rule's fault stands anywhere
abbrev pub MeetsNone : List ℕ → Type 0
MeetsNone bytes = (x : Kind) (at : ℕ) → Meets bytes x at → ⊥

-- the bytes are refused so
abbrev pub IsRefused : List ℕ → LexFault → Type 0
IsRefused bytes (NotUtf8 at) = IsValidUpTo bytes at
IsRefused bytes (BadChar at) = Leaves bytes at ⊎ Meets bytes kind.BadEscape at
IsRefused bytes (BadIndent at) = Meets bytes kind.BadIndent at
IsRefused bytes (BadNumeral at) = Meets bytes kind.BadNumeral at
IsRefused bytes (OpenComment at) = Meets bytes kind.OpenComment at
IsRefused bytes NoMemory = ⊤

-- the number of a fault, in the order in which LexFault lists them, and the place of one that isn't NotUtf8
abbrev pub number_of : LexFault → ℕ
number_of (NotUtf8 at) = 1
number_of (BadChar at) = 2
number_of (BadIndent at) = 3
number_of (BadNumeral at) = 4
number_of (OpenComment at) = 5
number_of NoMemory = 6

abbrev pub place_of : LexFault → ℕ
place_of (NotUtf8 at) = at
place_of (BadChar at) = at
place_of (BadIndent at) = at
place_of (BadNumeral at) = at
place_of (OpenComment at) = at
place_of NoMemory = 0

-- the one is given before the other: the one at a lesser place, or at the same place the one of the lesser number
abbrev pub GoesBefore : LexFault → LexFault → Type 0
GoesBefore f g = (place_of f < place_of g) ⊎ ((place_of f ≡ place_of g) × (number_of f ≤ number_of g))

-- the fault is the first of all that stand in the bytes, of which NotUtf8 goes before all others
abbrev pub IsFirst : List ℕ → LexFault → Type 0
IsFirst bytes (NotUtf8 at) = (g : LexFault) → IsRefused bytes g → g ≢ NoMemory → g ≡ NotUtf8 at
IsFirst bytes NoMemory = ⊤
IsFirst bytes f = (g : LexFault) → IsRefused bytes g → g ≢ NoMemory → GoesBefore f g

-- ---- by the reader

-- the fault that a kind is
abbrev pub fault_of : Kind → ℕ → LexFault
fault_of kind.BadEscape at = BadChar at
fault_of kind.BadIndent at = BadIndent at
fault_of kind.BadNumeral at = BadNumeral at
fault_of kind.OpenComment at = OpenComment at

-- the fault that a stop is
abbrev pub fault_at : ℕ → List Symbol → Stop Kind → LexFault
fault_at size i (stop.Unexpected left) = BadChar (offset size i left)
fault_at size i (stop.Fault x left) = fault_of x (offset size i left)
fault_at size i stop.NoMemory = NoMemory

-- what is answered where the reader gives this
abbrev pub answer : ℕ → List Symbol → Result (List Token × List Symbol) (Stop Kind) → Result (List Token) LexFault
answer size i (Ok r) = Ok r.0
answer size i (Err y) = Err (fault_at size i y)

abbrev pub answer_if : Bool → List ℕ → Result (List Token) LexFault
answer_if true bytes = answer (length bytes) (symbols bytes) (source (length bytes) profile (symbols bytes))
answer_if false bytes = Err (NotUtf8 (utf8_valid_len bytes))

-- the tokens of the bytes, or the fault in them
abbrev pub tokens_read : List ℕ → Result (List Token) LexFault
tokens_read bytes = answer_if (is_utf8 bytes) bytes

-- the answer, or no memory
abbrev pub Answers : Result (List Token) LexFault → Result (List Token) LexFault → Type 0
Answers wanted r = places.Answers NoMemory wanted r
