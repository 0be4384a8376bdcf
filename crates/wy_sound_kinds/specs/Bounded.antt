-- Which data a program may hold.
use Rattle.std.specs.Prelude.{◌≡◌, List, [], ◌∷◌, true}
use Rattle.wy_value.specs.Datum.{Datum, Null, Truth, Whole, Array, Record, Data, no_items, item, Fields, no_fields, field}
use Rattle.wy_value.specs.Values.{Rise, names_of}
use Rattle.wy_value.specs.Numbers.{is_int}
use Rattle.wy_sound_walks.specs.wy_sem.TypeTests.{few_enough}

abbrev mutual
  -- its numbers are `int`s, its arrays are no longer than an array may be, and the names of its records rise
  pub IsBounded : Datum → Type 0
  IsBounded Null = Unit {0}
  IsBounded (Truth b) = Unit {0}
  IsBounded (Whole z) = is_int z ≡ true
  IsBounded (Array ds) = (few_enough ds ≡ true) × AreBounded ds
  IsBounded (Record fs) = Rise (names_of fs) × FieldsBounded fs

  pub AreBounded : Data → Type 0
  AreBounded no_items = Unit {0}
  AreBounded (item d ds) = IsBounded d × AreBounded ds

  pub FieldsBounded : Fields → Type 0
  FieldsBounded no_fields = Unit {0}
  FieldsBounded (field name d fs) = IsBounded d × FieldsBounded fs

-- each of the data
abbrev pub AllBounded : List Datum → Type 0
AllBounded [] = Unit {0}
AllBounded (d ∷ ds) = IsBounded d × AllBounded ds
