-- What the example's call promises.
use Rattle.std.specs.Prelude.{◌≡◌, ℕ, ◌-◌, List, length, true, Result, ⊤}
use Rattle.wy_reading.specs.declared.example.Kind.{Kind}
use Rattle.wy_reading.specs.declared.example.Kind.TheVariants as kind
use Rattle.wy_reading.specs.declared.example.Fault.{Fault}
use Rattle.wy_reading.specs.declared.example.Fault.TheVariants.{Unexpected, TooLarge, Deep, NoMemory}
use Rattle.wy_reading.specs.declared.stop.Stop.{Stop}
use Rattle.wy_reading.specs.declared.stop.Stop.TheVariants as stop
use Rattle.wy_reading.specs.Mode.{Mode}
use Rattle.wy_reading.specs.Places as places
use Rattle.wy_reading.specs.ListGrammar.{Text}

-- lists nested as deep as the number, and each check made
abbrev pub within : ℕ → Mode
within depth = record { depth = depth; strict = true }

-- the bytes spell these numbers
unfoldable pub Spells : ℕ → List ℕ → List ℕ → Type 0
Spells depth text numbers = places.IsText Text (within depth) text numbers

-- how many bytes stand before the last so many
abbrev pub offset : List ℕ → ℕ → ℕ
offset text left = length text - left

-- with all before it well, the fault stands at the offset
pub record Meets (depth : ℕ) (text : List ℕ) (x : Kind) (at : ℕ) : Type 0 where
  pub left : ℕ
  pub place : at ≡ offset text left
  pub met : (Text (within depth)).meets text x left

-- at the offset stands the first byte after which no text goes on, however deep it nests and however large its numbers
pub record Leaves (depth : ℕ) (text : List ℕ) (at : ℕ) : Type 0 where
  pub left : ℕ
  pub place : at ≡ offset text left
  pub bad : places.FirstBad Text (within depth) text left

-- the text is refused so
abbrev pub IsRefused : ℕ → List ℕ → Fault → Type 0
IsRefused depth text (Unexpected at) = Leaves depth text at
IsRefused depth text (TooLarge at) = Meets depth text kind.TooLarge at
IsRefused depth text (Deep at) = Meets depth text kind.Deep at
IsRefused depth text NoMemory = ⊤

-- the fault that a kind is
abbrev pub fault_of : Kind → ℕ → Fault
fault_of kind.TooLarge at = TooLarge at
fault_of kind.Deep at = Deep at

-- the fault that a stop is
abbrev pub fault_at : List ℕ → Stop Kind → Fault
fault_at text (stop.Unexpected left) = Unexpected (offset text left)
fault_at text (stop.Fault x left) = fault_of x (offset text left)
fault_at text stop.NoMemory = NoMemory

-- the answer, or no memory
abbrev pub Answers : {A : Type 0} → Result A Fault → Result A Fault → Type 0
Answers wanted r = places.Answers NoMemory wanted r
