-- Parts of values, by number.
use Rattle.std.specs.Prelude.{◌≡◌, ℕ, ◌+◌, ◌<◌, ℤ, int_le, int_lt, List, Bool, true, false, ◌&&◌, cond, Option, Some, None, Result, Ok, Err, bytes_eq, pos}
use Rattle.wy_value.specs.Datum.{Datum, Data, Fields, no_fields, field, Array, Whole}
use Rattle.wy_sem.specs.Meter as sem
use Rattle.wy_sem.specs.Operations as spec
use Rattle.wy_sem.specs.Operations.{is_index, longest}
use Rattle.wy_term.specs.declared.cond.CondKind.TheVariants.{Index, Length}
use Rattle.wy_eval_exprs.specs.declared.updates.Slot.{Slot}
use Rattle.wy_eval_exprs.specs.declared.updates.Slot.TheVariants as slot
use Rattle.wy_eval_exprs.specs.declared.stop.Stop.{Stop}
use Rattle.wy_eval_exprs.specs.declared.stop.Stop.TheVariants as stop
use Rattle.wy_eval_exprs.specs.Outcomes.{stopped}

-- the part that the code names
abbrev pub seen_slot : Slot → spec.Slot
seen_slot (slot.Item i) = spec.ItemSlot i
seen_slot (slot.Field name) = spec.FieldSlot name

-- one further on
abbrev pub one_more : Option ℕ → Option ℕ
one_more None = None
one_more (Some i) = Some (i + 1)

-- the place of the first field with this name
abbrev pub place_in : Fields → List ℕ → Option ℕ
place_in no_fields name = None
place_in (field n d fs) name = cond (bytes_eq n name) (Some 0) (one_more (place_in fs name))

-- an array and the number of one of its items, or the fault that the index makes, whatever follows
abbrev pub IndexOf : ℕ → Datum → Datum → Result ℕ Stop → Type 0
IndexOf at v w (Ok i) = (ds : Data) × (v ≡ Array ds) × (w ≡ Whole (pos i)) × (is_index (pos i) ds ≡ true)
IndexOf at v w (Err e) = (next : Data → ℕ → sem.Run Datum) (m : sem.Meter) → spec.indexed at v w next m ≡ stopped e m

-- the number lies from 0 to before the count
abbrev pub is_below : ℤ → ℕ → Bool
is_below z n = int_le (pos 0) z && int_lt z (pos n)

-- the number of one of so many items, or a fault
abbrev pub NumberIn : ℕ → ℤ → ℕ → Result ℕ Stop → Type 0
NumberIn at z n (Ok i) = (z ≡ pos i) × (i < n)
NumberIn at z n (Err e) = (e ≡ stop.Fault Index at) × (is_below z n ≡ false)

-- the number is the length of an array
abbrev pub is_length : ℤ → Bool
is_length z = int_le (pos 0) z && int_le z (pos longest)

-- the length of an array that the number is, or a fault
abbrev pub LengthIn : ℕ → ℤ → Result ℕ Stop → Type 0
LengthIn at z (Ok n) = (z ≡ pos n) × (is_length (pos n) ≡ true)
LengthIn at z (Err e) = (e ≡ stop.Fault Length at) × (is_length z ≡ false)
