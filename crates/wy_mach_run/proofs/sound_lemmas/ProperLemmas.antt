-- Values are proper data.
use Rattle.std.proofs.Common.{◌≤◌, ◌-◌, ◌^◌, ℕ, [], ◌∷◌, arith, rules}
use Rattle.std.proofs.lemmas.Int.{ints}
use Rattle.wy_value.specs.Datum.{Datum, Null, Truth, Whole, Array, Record, Data, no_items, item, Fields, no_fields, field}
use Rattle.wy_value.specs.Seen.{seen}
use Rattle.wy_value.specs.Values.{length_of, IsValue, AreValues, AreValueFields}
use Rattle.wy_gen_laws.specs.wy_sem.Operations.{longest}
use Rattle.wy_gen_laws.specs.wy_sem.kept.Kept.{IsProper, AllProper, FieldsProper}
use Rattle.wy_mach_run.specs.sound.Runs.{ValuesAreProper}

few_items : (n : ℕ) → n ≤ 2 ^ 63 - 1 → n ≤ longest
unfolding longest
few_items n h = h

mutual
  value_proper : (d : Datum) → IsValue d → IsProper d
  value_proper Null h = tt
  value_proper (Truth b) h = tt
  value_proper (Whole z) h = let least = h.0 in let most = h.1 in grind (arith, ints, rules, least, most)
  value_proper (Array ds) h = (few_items (length_of ds) h.0, items_proper ds h.1)
  value_proper (Record fs) h = fields_proper fs h.1

  items_proper : (ds : Data) → AreValues ds → AllProper ds
  items_proper no_items h = tt
  items_proper (item d ds) h = (value_proper d h.0, items_proper ds h.1)

  fields_proper : (fs : Fields) → AreValueFields fs → FieldsProper fs
  fields_proper no_fields h = tt
  fields_proper (field n d fs) h = (value_proper d h.1, fields_proper fs h.2)

pub values_proper : ValuesAreProper
values_proper [] h = tt
values_proper (v ∷ vs) h = (value_proper (seen v) h.0, values_proper vs h.1)
