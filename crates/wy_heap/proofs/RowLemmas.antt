-- Places in a list, for the rows of the tests.
use Rattle.std.proofs.Common.{◌≡◌, ℕ, zero, suc, ◌<◌, List, [], ◌∷◌, ◌++◌, length, get_or, sym, subst, arith}
use Rattle.wy_value.specs.declared.value.Value.{Value}
use Rattle.wy_value.specs.Datum.{Datum, Data, no_items, item, Fields, no_fields, field}
use Rattle.wy_value.specs.Datum as datum
use Rattle.wy_value.specs.Shapes.{IsShapes}
use Rattle.wy_value.specs.Seen.{seen, seen_items}
use Rattle.wy_value.specs.Values.{IsDatum, AreData, AreFields, IsValue, AreValues, AreValueFields}
use Rattle.wy_heap.specs.declared.part.Part.{Part}
use Rattle.wy_heap.specs.declared.heap.Heap.{Heap}
use Rattle.wy_heap.specs.declared.part.Kind as kind
use Rattle.wy_heap.specs.declared.part.Kind.TheVariants as is
use Rattle.wy_heap.specs.Parts.{IsKind}
use Rattle.wy_heap.specs.Meaning.{Means, IsMeant}
use Rattle.wy_heap.specs.Nodes.{map_of, count_at, holds, held}
use Rattle.wy_heap.specs.Standing.{Stands, IsAsBefore, SameTable}
use Rattle.wy_heap.proofs.CountLemmas.{held-append}
use Rattle.wy_heap.proofs.LeadLemmas.{reordered, among_first, among_meant, counts_same, within_same}

-- the same places in another order
pub restood : (h : Heap) (ps qs : List Part) → ((k : ℕ) → held k qs ≡ held k ps) → Stands h ps → Stands h qs
restood h ps qs same stands = record {
  counts = reordered (count_at h) (map_of h) ps qs same stands.counts;
  within = stands.within;
  some = stands.some;
  table = stands.table;
}

-- a new place last
pub last_in : (h : Heap) (p : Part) (ps : List Part) → Stands h (p ∷ ps) → Stands h (ps ++ p ∷ [])
last_in h p ps stands = restood h (p ∷ ps) (ps ++ p ∷ []) (λ k. omega (arith, held-append k ps (p ∷ []))) stands

-- a place whose kind is array stands for an array
array_from : (h : Heap) (p : Part) (d : Datum) (k : kind.Kind) → Means (map_of h) d p → IsKind h.shapes d k → k ≡ is.Array → (items : Data) × Means (map_of h) (datum.Array items) p
array_from h p datum.Null k means of same = absurd (cc)
array_from h p (datum.Truth b) k means of same = absurd (cc)
array_from h p (datum.Whole z) k means of same = absurd (cc)
array_from h p (datum.Array items) k means of same = (items, means)
array_from h p (datum.Record fs) k means of same = absurd (let e = of.1 in cc)

pub array_there : (h : Heap) (p : Part) (others : List Part) (k : kind.Kind) → Stands h (p ∷ others) → ((d : Datum) → Means (map_of h) d p → IsKind h.shapes d k) → k ≡ is.Array → (items : Data) × Means (map_of h) (datum.Array items) p
array_there h p others k stands of same =
    let d = among_meant h (p ∷ others) p stands.counts (among_first p others) in
    array_from h p d.0 k d.1 (of d.0 d.1) same

-- a value's datum
abbrev mutual
  datum_from : (d : Datum) → IsValue d → IsDatum d
  datum_from datum.Null value = tt
  datum_from (datum.Truth b) value = tt
  datum_from (datum.Whole z) value = tt
  datum_from (datum.Array items) value = data_from items value.1
  datum_from (datum.Record fs) value = (value.0, fields_from fs value.1)

  data_from : (ds : Data) → AreValues ds → AreData ds
  data_from no_items value = tt
  data_from (item d ds) value = (datum_from d value.0, data_from ds value.1)

  fields_from : (fs : Fields) → AreValueFields fs → AreFields fs
  fields_from no_fields value = tt
  fields_from (field n d fs) value = (value.0, datum_from d value.1, fields_from fs value.2)

pub value_datum : (vs : List Value) (i : ℕ) (v : Value) → i < length vs → v ≡ get_or vs i v → AreValues (seen_items vs) → IsDatum (seen v)
value_datum [] i v below is all = absurd (omega arith)
value_datum (w ∷ vs) zero v below is all = subst (λ (x : Value). IsDatum (seen x)) (sym is) (datum_from (seen w) all.0)
value_datum (w ∷ vs) (suc i) v below is all = value_datum vs i v (omega arith) is all.1

-- a heap that is as before stands with the same places
pub as_before : (h n : Heap) (ps : List Part) → IsAsBefore h n → SameTable h n → Stands h ps → Stands n ps
as_before h n ps same kept stands = record {
  counts = counts_same h n ps (record { nodes = same.nodes; counts = same.counts }) stands.counts;
  within = within_same h n (λ k. omega (arith, same.counts k)) kept.0 stands.within;
  some = omega (arith, kept.0, stands.some);
  table = subst IsShapes (sym kept.1) stands.table;
}

pub first_meant : (h : Heap) (p : Part) (others : List Part) → Stands h (p ∷ others) → IsMeant (map_of h) p
first_meant h p others stands = among_meant h (p ∷ others) p stands.counts (among_first p others)

-- a scalar before the places
pub first_scalar : (h : Heap) (s : Part) (ps : List Part) → ((k : ℕ) → holds k s ≡ 0) → Stands h ps → Stands h (s ∷ ps)
first_scalar h s ps none stands = restood h ps (s ∷ ps) (λ k. omega (arith, none k)) stands
