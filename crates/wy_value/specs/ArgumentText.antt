-- What the reading of an argument text promises. An offset counts bytes from the front.
use Rattle.std.specs.Prelude.{◌≡◌, ℕ, ◌-◌, true, List, length, take, Result, ⊤, ◌⊎◌}
use Rattle.std.specs.Str.{chars, encode_utf8_all}
use Rattle.std.specs.Str.Lossy.{utf8_lossy}
use Rattle.wy_reading.specs.declared.stop.Stop.{Stop}
use Rattle.wy_reading.specs.declared.stop.Stop.TheVariants as stop
use Rattle.wy_reading.specs.Mode.{Mode}
use Rattle.wy_reading.specs.Places as places
use Rattle.wy_value.specs.declared.fault.Kind.{Kind}
use Rattle.wy_value.specs.declared.fault.Kind.TheVariants as kind
use Rattle.wy_value.specs.declared.fault.ValueFault.{ValueFault}
use Rattle.wy_value.specs.declared.fault.ValueFault.TheVariants.{Shape, Range, Deep, NoMemory}
use Rattle.wy_value.specs.declared.value.Value.{Value}
use Rattle.wy_value.specs.Grammar.{Text}

-- the characters of the text, with U+FFFD for bytes that aren't UTF-8: it stands in no argument text
unfoldable pub symbols : List ℕ → List ℕ
symbols text = chars (utf8_lossy text)

-- brackets nested 100 deep, and each check made
abbrev pub profile : Mode
profile = record { depth = 100; strict = true }

-- ---- of characters

-- the characters spell these values
unfoldable pub AreText : List ℕ → List Value → Type 0
AreText i vs = places.IsText Text profile i vs

-- how many bytes the characters have that stand before the last so many
unfoldable pub offset : List ℕ → ℕ → ℕ
offset i left = length (encode_utf8_all (take (length i - left) i))

-- with all before it well, the fault stands at the offset
pub record MeetsAt (i : List ℕ) (x : Kind) (at : ℕ) : Type 0 where
  pub left : ℕ
  pub place : at ≡ offset i left
  pub met : (Text profile).meets i x left

-- at the offset stands the first character after which no text goes on, however deep it nests and whatever its numbers and names are
pub record LeavesAt (i : List ℕ) (at : ℕ) : Type 0 where
  pub left : ℕ
  pub place : at ≡ offset i left
  pub bad : places.FirstBad Text profile i left

-- they are refused so
abbrev pub AreRefused : List ℕ → ValueFault → Type 0
AreRefused i (Shape at) = LeavesAt i at ⊎ MeetsAt i kind.Twice at
AreRefused i (Range at) = MeetsAt i kind.Range at
AreRefused i (Deep at) = MeetsAt i kind.Deep at
AreRefused i NoMemory = ⊤

-- ---- of bytes

-- the bytes spell these values
abbrev pub Spells : List ℕ → List Value → Type 0
Spells text vs = AreText (symbols text) vs

-- with all before it well, the fault stands at the offset
abbrev pub Meets : List ℕ → Kind → ℕ → Type 0
Meets text x at = MeetsAt (symbols text) x at

-- the text is refused so
abbrev pub IsRefused : List ℕ → ValueFault → Type 0
IsRefused text f = AreRefused (symbols text) f

-- ---- faults and answers

-- the fault that a kind is
abbrev pub fault_of : Kind → ℕ → ValueFault
fault_of kind.Range at = Range at
fault_of kind.Deep at = Deep at
fault_of kind.Twice at = Shape at

-- the fault that a stop is
abbrev pub fault_at : List ℕ → Stop Kind → ValueFault
fault_at i (stop.Unexpected left) = Shape (offset i left)
fault_at i (stop.Fault x left) = fault_of x (offset i left)
fault_at i stop.NoMemory = NoMemory

-- the answer, or no memory
abbrev pub Answers : Result (List Value) ValueFault → Result (List Value) ValueFault → Type 0
Answers wanted r = places.Answers NoMemory wanted r
