-- What expressions give of stores that hold values.
use Rattle.std.specs.Prelude.{◌≡◌, ◌≤◌, ℕ, List, [], ◌∷◌, Bool, true, Option, Some, None}
use Rattle.wy_term.specs.wy_value.Datum.{Datum, Null, Truth, Whole, Array, Record, Data, no_items, item, Fields, no_fields, field}
use Rattle.wy_term.specs.wy_value.Values.{length_of}
use Rattle.wy_term.specs.wy_value.Numbers.{is_int}
use Rattle.wy_types.specs.wy_core.CoreTree.{Expr}
use Rattle.wy_types.specs.wy_core.formed.Literals.{IntsExpr}
use Rattle.wy_types.specs.wy_core.formed.Sizes.{size}
use Rattle.wy_sem.specs.Meter.{Meter, Outcome, Done, Fault, More, Spent}
use Rattle.wy_sem.specs.Operations.{longest}
use Rattle.wy_sem.specs.Expressions.{Store, Setting, eval}

-- each number in the datum is an `int`, and no list is longer than arrays may be
abbrev mutual
  pub IsProper : Datum → Type 0
  IsProper Null = Unit {0}
  IsProper (Truth b) = Unit {0}
  IsProper (Whole z) = is_int z ≡ true
  IsProper (Array ds) = (length_of ds ≤ longest) × AllProper ds
  IsProper (Record fs) = FieldsProper fs

  pub AllProper : Data → Type 0
  AllProper no_items = Unit {0}
  AllProper (item d ds) = IsProper d × AllProper ds

  pub FieldsProper : Fields → Type 0
  FieldsProper no_fields = Unit {0}
  FieldsProper (field n d fs) = IsProper d × FieldsProper fs

-- so of each variable that is set
abbrev pub SlotProper : Option Datum → Type 0
SlotProper None = Unit {0}
SlotProper (Some d) = IsProper d

abbrev pub StoreProper : Store → Type 0
StoreProper [] = Unit {0}
StoreProper (v ∷ vs) = SlotProper v × StoreProper vs

abbrev pub ListProper : List Datum → Type 0
ListProper [] = Unit {0}
ListProper (d ∷ ds) = IsProper d × ListProper ds

-- an answer, where there is one, has this property
abbrev pub Gives : {X : Type 0} → (X → Type 0) → Outcome X → Type 0
Gives P (Done x m) = P x
Gives P (Fault kind at m) = Unit {0}
Gives P (More m) = Unit {0}
Gives P Spent = Unit {0}

-- so do calls on such arguments
abbrev pub CallsGive : Setting ℕ → Type 0
CallsGive w = (f at : ℕ) (vs : List Datum) (m : Meter) → ListProper vs → Gives SlotProper (w.call f at vs m)

-- an expression whose literals are `int`s, and that isn't larger than arrays may be
abbrev pub ExpressionsGiveValues : Type 0
ExpressionsGiveValues = (w : Setting ℕ) (paid : Bool) → CallsGive w → (e : Expr ℕ) → IntsExpr e → size e ≤ longest → (s : Store) → StoreProper s → (m : Meter) → Gives IsProper (eval w paid e s m)
