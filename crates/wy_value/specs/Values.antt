-- Which data the language has, and which of them are values.
use Rattle.std.specs.Prelude.{ℕ, ◌+◌, ◌≤◌, ◌^◌, ◌-◌, ◌≤ℤ◌, List, [], ◌∷◌, ⊤}
use Rattle.std.specs.Ordering.{nat_cmp}
use Rattle.std.specs.List.Sorted.{IsStrictlySortedBy}
use Rattle.std.specs.Cmp.Lexicographic.{slice_cmp}
use Rattle.wy_data.specs.Words.{IsName}
use Rattle.wy_value.specs.Datum.{Datum, Data, no_items, item, Fields, no_fields, field}
use Rattle.wy_value.specs.Datum.{Null, Truth, Whole, Array, Record}
use Rattle.wy_value.specs.declared.bounds.TheConstants.{INT_MIN, INT_MAX}

-- each name stands before those after it in the order of bytes
abbrev pub Rise : List (List ℕ) → Type 0
Rise names = IsStrictlySortedBy (slice_cmp nat_cmp) names

abbrev pub names_of : Fields → List (List ℕ)
names_of no_fields = []
names_of (field n d rest) = n ∷ names_of rest

abbrev pub length_of : Data → ℕ
length_of no_items = 0
length_of (item d rest) = length_of rest + 1

-- in each record in it the fields have names, and these rise
abbrev mutual
  pub IsDatum : Datum → Type 0
  IsDatum Null = ⊤
  IsDatum (Truth b) = ⊤
  IsDatum (Whole z) = ⊤
  IsDatum (Array items) = AreData items
  IsDatum (Record fs) = Rise (names_of fs) × AreFields fs

  pub AreData : Data → Type 0
  AreData no_items = ⊤
  AreData (item d rest) = IsDatum d × AreData rest

  pub AreFields : Fields → Type 0
  AreFields no_fields = ⊤
  AreFields (field n d rest) = IsName n × IsDatum d × AreFields rest

-- a datum whose numbers lie from INT_MIN to INT_MAX, and whose lists have at most 2^63 - 1 items
abbrev mutual
  pub IsValue : Datum → Type 0
  IsValue Null = ⊤
  IsValue (Truth b) = ⊤
  IsValue (Whole z) = (INT_MIN ≤ℤ z) × (z ≤ℤ INT_MAX)
  IsValue (Array items) = (length_of items ≤ 2 ^ 63 - 1) × AreValues items
  IsValue (Record fs) = Rise (names_of fs) × AreValueFields fs

  pub AreValues : Data → Type 0
  AreValues no_items = ⊤
  AreValues (item d rest) = IsValue d × AreValues rest

  pub AreValueFields : Fields → Type 0
  AreValueFields no_fields = ⊤
  AreValueFields (field n d rest) = IsName n × IsValue d × AreValueFields rest
