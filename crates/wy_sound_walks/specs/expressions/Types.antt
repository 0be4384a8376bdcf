-- Which data a type has, where it is told which data named types stand for.
use Rattle.std.specs.Prelude.{ℕ, Bool, true, false, not, ◌&&◌, ◌||◌}
use Rattle.wy_value.specs.Datum.{Datum, Null, Truth, Whole, Array, Record, Data, no_items, item, Fields, no_fields, field}
use Rattle.wy_core.specs.Types.{Ty, NullTy, BoolTy, IntTy, AnyTy, VoidTy, RecordTy, ArrayTy, UnionTy, InterTy, NotTy, NamedTy, NormalTy, FieldTys, NoFieldTys, MoreFieldTys}
use Rattle.wy_sound_terms.specs.wy_sem.TypeTests.{is_null, is_truth, is_whole, few_enough, same_names}

-- each item has the property
abbrev pub each_item : (Datum → Bool) → Data → Bool
each_item test no_items = true
each_item test (item d ds) = test d && each_item test ds

-- an array of such items
abbrev pub is_array_of : (Datum → Bool) → Datum → Bool
is_array_of test Null = false
is_array_of test (Truth b) = false
is_array_of test (Whole z) = false
is_array_of test (Array ds) = few_enough ds && each_item test ds
is_array_of test (Record fs) = false

-- a record with such fields
abbrev pub is_record_of : (Fields → Bool) → Datum → Bool
is_record_of test Null = false
is_record_of test (Truth b) = false
is_record_of test (Whole z) = false
is_record_of test (Array ds) = false
is_record_of test (Record fs) = test fs

-- the first field is so, and so are the others
abbrev pub first_field : (Datum → Bool) → (Fields → Bool) → Fields → Bool
first_field test rest no_fields = true
first_field test rest (field name d fs) = test d && rest fs

abbrev mutual
  -- the datum is in the type
  pub is_in : (ℕ → Datum → Bool) → Ty → Datum → Bool
  is_in members NullTy d = is_null d
  is_in members BoolTy d = is_truth d
  is_in members IntTy d = is_whole d
  is_in members AnyTy d = true
  is_in members VoidTy d = false
  is_in members (RecordTy fields) d = is_record_of (λ fs. same_names fs fields && fields_in members fields fs) d
  is_in members (ArrayTy t) d = is_array_of (is_in members t) d
  is_in members (UnionTy s t) d = is_in members s d || is_in members t d
  is_in members (InterTy s t) d = is_in members s d && is_in members t d
  is_in members (NotTy t) d = not (is_in members t d)
  is_in members (NamedTy n) d = members n d
  is_in members (NormalTy union) d = false

  -- each field is in its type, as long as both last
  pub fields_in : (ℕ → Datum → Bool) → FieldTys → Fields → Bool
  fields_in members NoFieldTys fs = true
  fields_in members (MoreFieldTys name t fields) fs = first_field (is_in members t) (fields_in members fields) fs
