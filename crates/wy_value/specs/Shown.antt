-- The text of a datum.
use Rattle.std.specs.Prelude.{ℕ, suc, true, false, max, List, [], ◌∷◌, ◌++◌, codes}
use Rattle.std.specs.Fmt.{signed_decimal}
use Rattle.wy_value.specs.Datum.{Datum, Null, Truth, Whole, Array, Record, Data, no_items, item, Fields, no_fields, field}

-- null, true or false, a number in decimal, an array in square brackets, a record in braces
abbrev mutual
  pub shown : Datum → List ℕ
  shown Null = codes "null"
  shown (Truth true) = codes "true"
  shown (Truth false) = codes "false"
  shown (Whole z) = signed_decimal z
  shown (Array items) = 91 ∷ shown_items items ++ 93 ∷ []
  shown (Record fs) = 123 ∷ shown_fields fs ++ 125 ∷ []

  -- items, with a comma and a space between them
  pub shown_items : Data → List ℕ
  shown_items no_items = []
  shown_items (item d rest) = shown d ++ more_items rest

  pub more_items : Data → List ℕ
  more_items no_items = []
  more_items (item d rest) = 44 ∷ 32 ∷ shown d ++ more_items rest

  -- fields, a name with a colon, a space and the datum, with a comma and a space between them
  pub shown_fields : Fields → List ℕ
  shown_fields no_fields = []
  shown_fields (field n d rest) = (n ++ 58 ∷ 32 ∷ shown d) ++ more_fields rest

  pub more_fields : Fields → List ℕ
  more_fields no_fields = []
  more_fields (field n d rest) = 44 ∷ 32 ∷ (n ++ 58 ∷ 32 ∷ shown d) ++ more_fields rest

-- how deep the brackets of its text nest
abbrev mutual
  pub nesting : Datum → ℕ
  nesting Null = 0
  nesting (Truth b) = 0
  nesting (Whole z) = 0
  nesting (Array items) = suc (nesting_items items)
  nesting (Record fs) = suc (nesting_fields fs)

  pub nesting_items : Data → ℕ
  nesting_items no_items = 0
  nesting_items (item d rest) = max (nesting d) (nesting_items rest)

  pub nesting_fields : Fields → ℕ
  nesting_fields no_fields = 0
  nesting_fields (field n d rest) = max (nesting d) (nesting_fields rest)
