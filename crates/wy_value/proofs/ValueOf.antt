-- The value that a datum is: a value is known from its datum.
use Rattle.std.proofs.Common.{◌≡◌, ℕ, List, [], ◌∷◌, map, refl, sym, ap, ◌∙◌, subst}
use Rattle.wy_value.specs.Datum.{Datum, Null, Truth, Whole, Array, Record, Data, no_items, item, Fields, no_fields, field}
use Rattle.wy_value.specs.declared.value.Value.{Value, Value-F, roll-Value, ind-Value}
use Rattle.wy_value.specs.declared.value.Value.TheFolds.{map-Value}
use Rattle.wy_value.specs.declared.value.Value.TheVariants.{rolls-Null, rolls-Bool, rolls-Int, rolls-Array, rolls-Record}
use Rattle.wy_value.specs.declared.value.Value.TheVariants as value
use Rattle.wy_value.specs.Grammar.{Entry}
use Rattle.wy_value.specs.Seen.{seen, seen_items, seen_fields}
use Rattle.wy_value.proofs.SeenLemmas.{seen_null, seen_bool, seen_int, seen_array, seen_record}

abbrev mutual
  pub value_of : Datum → Value
  value_of Null = value.Null
  value_of (Truth b) = value.Bool b
  value_of (Whole z) = value.Int z
  value_of (Array items) = value.Array (values_of items)
  value_of (Record fs) = value.Record (entries_of fs)

  pub values_of : Data → List Value
  values_of no_items = []
  values_of (item d rest) = value_of d ∷ values_of rest

  pub entries_of : Fields → List Entry
  entries_of no_fields = []
  entries_of (field n d rest) = (n, value_of d) ∷ entries_of rest

abbrev IsBack : Value → Type 0
IsBack v = value_of (seen v) ≡ v

-- a value with the proof beside it
abbrev Known : Type 0
Known = (v : Value) × IsBack v

values-back : (vs : List Known) → values_of (seen_items (map (λ (e : Known). e.0) vs)) ≡ map (λ (e : Known). e.0) vs
values-back [] = refl
values-back (v ∷ vs) = rw (v.1, values-back vs) refl

entries-back : (fs : List (List ℕ × Known)) → entries_of (seen_fields (map (λ (f : List ℕ × Known). (f.0, f.1.0)) fs)) ≡ map (λ (f : List ℕ × Known). (f.0, f.1.0)) fs
entries-back [] = refl
entries-back (f ∷ fs) = rw (f.1.1, entries-back fs) refl

layer-back : (y : Value-F Known) (x : Value-F Value) → map-Value Known Value (λ e. e.0) y ≡ x → IsBack (roll-Value x)
layer-back y x is = subst (λ x. IsBack (roll-Value x)) is (by y)
  where
    by : (y : Value-F Known) → IsBack (roll-Value (map-Value Known Value (λ e. e.0) y))
    by Value-F.Null = ap value_of (ap seen rolls-Null ∙ seen_null) ∙ sym rolls-Null
    by (Value-F.Bool b) = ap value_of (ap seen (rolls-Bool b) ∙ seen_bool b) ∙ sym (rolls-Bool b)
    by (Value-F.Int z) = ap value_of (ap seen (rolls-Int z) ∙ seen_int z) ∙ sym (rolls-Int z)
    by (Value-F.Array vs) =
        let us = map (λ (e : Known). e.0) vs in
        ap value_of (ap seen (rolls-Array us) ∙ seen_array us) ∙ (ap (λ l. value.Array l) (values-back vs) ∙ sym (rolls-Array us))
    by (Value-F.Record fs) =
        let gs = map (λ (f : List ℕ × Known). (f.0, f.1.0)) fs in
        ap value_of (ap seen (rolls-Record gs) ∙ seen_record gs) ∙ (ap (λ l. value.Record l) (entries-back fs) ∙ sym (rolls-Record gs))

pub value_of-seen : (v : Value) → value_of (seen v) ≡ v
value_of-seen = ind-Value IsBack (λ x y is. layer-back y x is)
