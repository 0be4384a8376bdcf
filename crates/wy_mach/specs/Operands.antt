-- What instructions read from registers.
use Rattle.std.specs.Prelude.{◌≡◌, ℕ, List, Bool, Option, Some, None, ℤ, ⊤}
use Rattle.wy_value.specs.Datum.{Datum, Null, Truth, Whole, Array, Record}
use Rattle.wy_heap.specs.declared.part.Part.{Part}
use Rattle.wy_heap.specs.declared.part.Kind as kind
use Rattle.wy_heap.specs.declared.part.Kind.TheVariants as is
use Rattle.wy_heap.specs.declared.heap.Heap.{Heap}
use Rattle.wy_heap.specs.Nodes.{map_of}
use Rattle.wy_sem.specs.Operations.{same}
use Rattle.wy_sem.specs.Expressions.{Store, slot}
use Rattle.wy_mach.specs.declared.stop.Stop.{Stop}
use Rattle.wy_mach.specs.declared.stop.Stop.TheVariants.{Stuck, NoMemory}
use Rattle.wy_mach.specs.Showing.{Shows}

-- the number that a register holds
abbrev pub number_in : Option Datum → Option ℤ
number_in None = None
number_in (Some Null) = None
number_in (Some (Truth b)) = None
number_in (Some (Whole z)) = Some z
number_in (Some (Array ds)) = None
number_in (Some (Record fs)) = None

-- the truth value that a register holds
abbrev pub truth_in : Option Datum → Option Bool
truth_in None = None
truth_in (Some Null) = None
truth_in (Some (Truth b)) = Some b
truth_in (Some (Whole z)) = None
truth_in (Some (Array ds)) = None
truth_in (Some (Record fs)) = None

-- the number and the truth value that a kind is
abbrev pub number_of : kind.Kind → Option ℤ
number_of is.Null = None
number_of (is.Bool b) = None
number_of (is.Int z) = Some z
number_of is.Array = None
number_of (is.Record n) = None

abbrev pub truth_of : kind.Kind → Option Bool
truth_of is.Null = None
truth_of (is.Bool b) = Some b
truth_of (is.Int z) = None
truth_of is.Array = None
truth_of (is.Record n) = None

-- whatever the registers show, this is read from the one with that number
abbrev pub Reads : {X : Type 0} → Heap → List Part → ℕ → (Option Datum → Option X) → Option X → Type 0
Reads h ps r read result = (s : Store) → Shows (map_of h) s ps → result ≡ read (slot s r)

-- whatever two registers show, the answer is whether they hold the same; nothing is said where one is empty
abbrev pub TellsSame : Heap → List Part → ℕ → ℕ → Bool → Type 0
TellsSame h ps a b answer = (s : Store) (d e : Datum) → Shows (map_of h) s ps → slot s a ≡ Some d → slot s b ≡ Some e → same d e ≡ answer

-- why two registers couldn't be compared: one of them is empty or not there, or there was no memory
abbrev pub ComparesNone : Heap → List Part → ℕ → ℕ → Stop → Type 0
ComparesNone h ps a b Stuck = (s : Store) (d e : Datum) → Shows (map_of h) s ps → slot s a ≡ Some d → slot s b ≡ Some e → ⊥
ComparesNone h ps a b NoMemory = ⊤
