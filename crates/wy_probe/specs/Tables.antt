-- What is kept of the values of declared types while others are made?
use Rattle.std.specs.Prelude.{ℕ, zero, suc, List, [], ◌∷◌, map, take, length, get_or}
use Rattle.wy_value.specs.Datum.{Datum, Record, Fields, no_fields}
use Rattle.wy_value.specs.Seen.{seen, seen_fields}
use Rattle.wy_value.specs.declared.value.Value.{Value}
use Rattle.wy_core.specs.Types.{Ty, FieldTys, NoFieldTys, MoreFieldTys}
use Rattle.wy_types.specs.Names.{Declared}
use Rattle.wy_probe.specs.Candidates.{arrays, choices, few, most, no_array, no_record, values_by, with_field}

-- the values of each declared type, by its number
abbrev pub Table : Type 0
Table = List (List Datum)

-- those of this type; none where the number is no type's
abbrev pub at : Table → ℕ → List Datum
at table n = get_or table n []

-- the data of a list of values
abbrev pub data_in : List Value → List Datum
data_in vs = map seen vs

abbrev pub table_of : List (List Value) → Table
table_of lists = map data_in lists

abbrev pub tables_of : List (List (List Value)) → List Table
tables_of tables = map table_of tables

-- the fields of records
abbrev pub rows_in : List (List (List ℕ × Value)) → List Fields
rows_in rows = map seen_fields rows

-- the first choices, cut at each field
abbrev pub row_choices : (Ty → List Datum) → FieldTys → List Fields
row_choices values NoFieldTys = no_fields ∷ []
row_choices values (MoreFieldTys name t fields) = take most (with_field name (take few (values t)) (row_choices values fields))

-- arrays and records of parts whose types have these tables, the next depth first
abbrev mutual
  pub array_by : List Declared → List Table → Ty → List Datum
  array_by names [] t = no_array t
  array_by names (table ∷ lower) t = arrays (values_by names (at table) (array_by names lower) (record_by names lower) t)

  pub record_by : List Declared → List Table → FieldTys → List Datum
  record_by names [] fields = no_record fields
  record_by names (table ∷ lower) fields = map (λ fs. Record fs) (choices (values_by names (at table) (array_by names lower) (record_by names lower)) fields)

-- the values of a type, where names have this table
abbrev pub by_tables : List Declared → Table → List Table → Ty → List Datum
by_tables names table lower = values_by names (at table) (array_by names lower) (record_by names lower)

-- the values of each of these types, by the table of the round before
abbrev pub tables_for : List Declared → List Declared → List Table → Table → Table
tables_for types names lower table = map (λ (d : Declared). by_tables names table lower d.ty) types

-- the table of a round, from that of the round before
abbrev pub next_table : List Declared → List Table → Table → Table
next_table names lower table = tables_for names names lower table

abbrev pub no_lists : List Declared → Table
no_lists [] = []
no_lists (d ∷ ds) = [] ∷ no_lists ds

-- the table after so many rounds
abbrev pub rounds : List Declared → List Table → ℕ → Table
rounds names lower zero = no_lists names
rounds names lower (suc j) = next_table names lower (rounds names lower j)

-- one table more, of the next depth
abbrev pub deeper : List Declared → List Table → List Table
deeper names lower = rounds names lower (suc (length names)) ∷ lower
