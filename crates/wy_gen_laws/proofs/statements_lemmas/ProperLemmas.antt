-- Updates keep values proper.
use Rattle.std.proofs.Common.{◌≡◌, ℕ, zero, suc, ◌+◌, List, [], ◌∷◌, Bool, true, false, cond, Option, Some, None, refl, ap, arith}
use Rattle.std.specs.Prelude.{bytes_eq}
use Rattle.wy_vc_spec.proofs.wy_sem_proofs.kept_lemmas.KeptLemmas.{item_proper}
use Rattle.wy_value.specs.Datum.{Datum, Null, Truth, Whole, Array, Record, Data, no_items, item, Fields, no_fields, field}
use Rattle.wy_value.specs.Values.{length_of}
use Rattle.wy_vc_spec.specs.wy_sem.kept.Kept.{IsProper, AllProper, FieldsProper, SlotProper}
use Rattle.wy_vc_spec.specs.wy_sem.Operations.{set_item, found_field, find, set_field, or_null, Slot, ItemSlot, FieldSlot, part_at, with_part, updated}

found_proper : (b : Bool) (d : Datum) (o : Option Datum) → IsProper d → SlotProper o → SlotProper (found_field b d o)
found_proper true d o h g = h
found_proper false d o h g = g

find_proper : (fs : Fields) (name : List ℕ) → FieldsProper fs → SlotProper (find fs name)
find_proper no_fields name h = tt
find_proper (field n d fs) name h = found_proper (bytes_eq n name) d (find fs name) h.0 (find_proper fs name h.1)

or_null_proper : (o : Option Datum) → SlotProper o → IsProper (or_null o)
or_null_proper None h = tt
or_null_proper (Some d) h = h

part_proper : (p : Slot) (d : Datum) → IsProper d → IsProper (part_at p d)
part_proper (ItemSlot i) (Array ds) h = item_proper ds i h.1
part_proper (ItemSlot i) Null h = tt
part_proper (ItemSlot i) (Truth b) h = tt
part_proper (ItemSlot i) (Whole z) h = tt
part_proper (ItemSlot i) (Record fs) h = tt
part_proper (FieldSlot name) (Record fs) h = or_null_proper (find fs name) (find_proper fs name h)
part_proper (FieldSlot name) Null h = tt
part_proper (FieldSlot name) (Truth b) h = tt
part_proper (FieldSlot name) (Whole z) h = tt
part_proper (FieldSlot name) (Array ds) h = tt

set_length : (ds : Data) (i : ℕ) (v : Datum) → length_of (set_item ds i v) ≡ length_of ds
set_length no_items i v = refl
set_length (item d ds) zero v = refl
set_length (item d ds) (suc i) v = ap (λ (k : ℕ). k + 1) (set_length ds i v)

set_proper : (ds : Data) (i : ℕ) (v : Datum) → IsProper v → AllProper ds → AllProper (set_item ds i v)
set_proper no_items i v p h = tt
set_proper (item d ds) zero v p h = (p, h.1)
set_proper (item d ds) (suc i) v p h = (h.0, set_proper ds i v p h.1)

cond_proper : (b : Bool) (fs gs : Fields) → FieldsProper fs → FieldsProper gs → FieldsProper (cond b fs gs)
cond_proper true fs gs h g = h
cond_proper false fs gs h g = g

set_field_proper : (fs : Fields) (name : List ℕ) (v : Datum) → IsProper v → FieldsProper fs → FieldsProper (set_field fs name v)
set_field_proper no_fields name v p h = tt
set_field_proper (field n d fs) name v p h = cond_proper (bytes_eq n name) (field n v fs) (field n d (set_field fs name v)) (p, h.1) (h.0, set_field_proper fs name v p h.1)

with_proper : (p : Slot) (d v : Datum) → IsProper d → IsProper v → IsProper (with_part p d v)
with_proper (ItemSlot i) (Array ds) v h g = (let l = set_length ds i v in let k = h.0 in omega (arith, l, k), set_proper ds i v g h.1)
with_proper (ItemSlot i) Null v h g = tt
with_proper (ItemSlot i) (Truth b) v h g = tt
with_proper (ItemSlot i) (Whole z) v h g = h
with_proper (ItemSlot i) (Record fs) v h g = h
with_proper (FieldSlot name) (Record fs) v h g = set_field_proper fs name v g h
with_proper (FieldSlot name) Null v h g = tt
with_proper (FieldSlot name) (Truth b) v h g = tt
with_proper (FieldSlot name) (Whole z) v h g = h
with_proper (FieldSlot name) (Array ds) v h g = h

pub updated_proper : (ps : List Slot) (d v : Datum) → IsProper d → IsProper v → IsProper (updated d ps v)
updated_proper [] d v h g = g
updated_proper (p ∷ ps) d v h g = with_proper p d (updated (part_at p d) ps v) h (updated_proper ps (part_at p d) v (part_proper p d h) g)
