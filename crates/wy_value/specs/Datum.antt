-- Data: what programs compute with and what terms mean. A datum is null, a truth value, a whole number of any size, a list of data or a record.
use Rattle.std.specs.Prelude.{ℕ, List, Bool, ℤ}

mutual
  pub data Datum : Type 0 where
    Null : Datum
    Truth : (b : Bool) → Datum
    Whole : (z : ℤ) → Datum
    Array : (items : Data) → Datum
    Record : (fields : Fields) → Datum

  -- a list of data
  pub data Data : Type 0 where
    no_items : Data
    item : (first : Datum) (rest : Data) → Data

  -- the fields of a record, each a name (its bytes) and a datum
  pub data Fields : Type 0 where
    no_fields : Fields
    field : (name : List ℕ) (datum : Datum) (rest : Fields) → Fields
