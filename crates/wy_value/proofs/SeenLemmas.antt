-- The datum of a value, one layer at a time.
use Rattle.std.proofs.Common.{◌≡◌, ℤ, Bool, List, [], ◌∷◌, map, refl, sym, ap, ◌∙◌}
use Rattle.wy_value.specs.Datum.{item, field}
use Rattle.wy_value.specs.Datum as datum
use Rattle.wy_value.specs.declared.value.Value.{Value, Value-F, fold-roll-Value}
use Rattle.wy_value.specs.declared.value.Value.TheVariants.{rolls-Null, rolls-Bool, rolls-Int, rolls-Array, rolls-Record}
use Rattle.wy_value.specs.declared.value.Value.TheVariants as value
use Rattle.wy_value.specs.Grammar.{Entry}
use Rattle.wy_value.specs.Seen.{data_of, fields_of, seen, seen_layer, seen_items, seen_fields}

pub seen_null : seen value.Null ≡ datum.Null
seen_null = ap seen (sym rolls-Null) ∙ fold-roll-Value datum.Datum seen_layer Value-F.Null

pub seen_bool : (b : Bool) → seen (value.Bool b) ≡ datum.Truth b
seen_bool b = ap seen (sym (rolls-Bool b)) ∙ fold-roll-Value datum.Datum seen_layer (Value-F.Bool b)

pub seen_int : (z : ℤ) → seen (value.Int z) ≡ datum.Whole z
seen_int z = ap seen (sym (rolls-Int z)) ∙ fold-roll-Value datum.Datum seen_layer (Value-F.Int z)

items-seen : (vs : List Value) → data_of (map seen vs) ≡ seen_items vs
items-seen [] = refl
items-seen (v ∷ vs) = ap (λ d. item (seen v) d) (items-seen vs)

fields-seen : (fs : List Entry) → fields_of (map (λ f. (f.0, seen f.1)) fs) ≡ seen_fields fs
fields-seen [] = refl
fields-seen (f ∷ fs) = ap (λ d. field f.0 (seen f.1) d) (fields-seen fs)

pub seen_array : (vs : List Value) → seen (value.Array vs) ≡ datum.Array (seen_items vs)
seen_array vs = ap seen (sym (rolls-Array vs)) ∙ (fold-roll-Value datum.Datum seen_layer (Value-F.Array vs) ∙ ap (λ d. datum.Array d) (items-seen vs))

pub seen_record : (fs : List Entry) → seen (value.Record fs) ≡ datum.Record (seen_fields fs)
seen_record fs = ap seen (sym (rolls-Record fs)) ∙ (fold-roll-Value datum.Datum seen_layer (Value-F.Record fs) ∙ ap (λ d. datum.Record d) (fields-seen fs))
