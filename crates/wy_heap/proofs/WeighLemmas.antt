-- The weight of a part is the size of the datum that it stands for.
use Rattle.std.proofs.Common.{◌≡◌, ◌≢◌, ℕ, zero, suc, ◌+◌, ◌≤◌, ◌<◌, List, [], ◌∷◌, set, Option, None, refl, ◌∙◌, ap, subst, arith}
use Rattle.std.proofs.lemmas.List.{get_or-set_other}
use Rattle.wy_value.specs.Datum.{Datum, Data, no_items, item, Fields, no_fields, field}
use Rattle.wy_value.specs.Datum as datum
use Rattle.wy_value.specs.Values.{length_of}
use Rattle.wy_heap.specs.declared.part.Part.{Part}
use Rattle.wy_heap.specs.declared.part.Part.TheVariants.{Null, Bool, Int, Key}
use Rattle.wy_heap.specs.Nodes.{Form, Body, Map, parts_in, size}
use Rattle.wy_heap.specs.Meaning.{data_in, Means, MeanAll, MeanFields, IsSplit}
use Rattle.wy_heap.specs.Slots.{nth}
use Rattle.wy_heap.specs.Weighing.{total, weight_to, weight, tree, trees, tree_fields}
use Rattle.wy_heap.proofs.CountLemmas.{size-set}
use Rattle.wy_heap.proofs.MeaningLemmas.{means_unique}

pub trees-data_in : (fs : Fields) → trees (data_in fs) ≡ tree_fields fs
trees-data_in no_fields = refl
trees-data_in (field n d fs) = omega (arith, trees-data_in fs)

pub tree-split : (d : Datum) (form : Form) (ds : Data) → IsSplit d form ds → tree d ≡ 1 + trees ds
tree-split datum.Null form ds split = absurd split
tree-split (datum.Truth b) form ds split = absurd split
tree-split (datum.Whole z) form ds split = absurd split
tree-split (datum.Array items) form ds split = omega (arith, ap trees split.1)
tree-split (datum.Record fs) form ds split = omega (arith, ap trees split.1, trees-data_in fs)

pub tree_some : (d : Datum) → 1 ≤ tree d
tree_some datum.Null = omega arith
tree_some (datum.Truth b) = omega arith
tree_some (datum.Whole z) = omega arith
tree_some (datum.Array items) = omega arith
tree_some (datum.Record fs) = omega arith

pub tree-nth : (ds : Data) (i : ℕ) → i < length_of ds → tree (nth ds i) ≤ trees ds
tree-nth no_items i below = absurd (omega arith)
tree-nth (item d ds) zero below = omega arith
tree-nth (item d ds) (suc i) below = omega (arith, tree-nth ds i (omega arith))

-- the datum is no deeper than this
abbrev mutual
  Low : ℕ → Datum → Type 0
  Low n datum.Null = Unit {0}
  Low n (datum.Truth b) = Unit {0}
  Low n (datum.Whole z) = Unit {0}
  Low n (datum.Array items) = (m : ℕ) × (n ≡ suc m) × LowAll m items
  Low n (datum.Record fs) = (m : ℕ) × (n ≡ suc m) × LowFields m fs

  LowAll : ℕ → Data → Type 0
  LowAll n no_items = Unit {0}
  LowAll n (item d ds) = Low n d × LowAll n ds

  LowFields : ℕ → Fields → Type 0
  LowFields n no_fields = Unit {0}
  LowFields n (field k d fs) = Low n d × LowFields n fs

null_weight : (n : ℕ) (m : Map) → weight_to n m Null ≡ 1
null_weight zero m = refl
null_weight (suc n) m = refl

bool_weight : (n : ℕ) (m : Map) (b : _) → weight_to n m (Bool b) ≡ 1
bool_weight zero m b = refl
bool_weight (suc n) m b = refl

int_weight : (n : ℕ) (m : Map) (z : _) → weight_to n m (Int z) ≡ 1
int_weight zero m z = refl
int_weight (suc n) m z = refl

mutual
  weight_is : (n : ℕ) (m : Map) (d : Datum) (p : Part) → Low n d → Means m d p → weight_to n m p ≡ tree d
  weight_is n m datum.Null p low means = ap (weight_to n m) means ∙ null_weight n m
  weight_is n m (datum.Truth b) p low means = ap (weight_to n m) means ∙ bool_weight n m b
  weight_is n m (datum.Whole z) p low means = ap (weight_to n m) means ∙ int_weight n m z
  weight_is n m (datum.Array items) p low means =
      ap (λ (k : ℕ). weight_to k m p) low.1
      ∙ ap (weight_to (suc low.0) m) means.is_key
      ∙ ap (λ (o : Option Body). 1 + total (weight_to low.0 m) (parts_in o)) means.is_node
      ∙ ap (λ (k : ℕ). 1 + k) (weights_are low.0 m items means.parts low.2 means.pass_all)
  weight_is n m (datum.Record fs) p low means =
      ap (λ (k : ℕ). weight_to k m p) low.1
      ∙ ap (weight_to (suc low.0) m) means.is_key
      ∙ ap (λ (o : Option Body). 1 + total (weight_to low.0 m) (parts_in o)) means.is_node
      ∙ ap (λ (k : ℕ). 1 + k) (weights_fields low.0 m fs means.parts low.2 means.pass_all)

  weights_are : (n : ℕ) (m : Map) (ds : Data) (ps : List Part) → LowAll n ds → MeanAll m ds ps → total (weight_to n m) ps ≡ trees ds
  weights_are n m no_items ps low mean = ap (total (weight_to n m)) mean
  weights_are n m (item d ds) [] low mean = absurd mean
  weights_are n m (item d ds) (p ∷ ps) low mean =
      omega (arith, weight_is n m d p low.0 mean.0, weights_are n m ds ps low.1 mean.1)

  weights_fields : (n : ℕ) (m : Map) (fs : Fields) (ps : List Part) → LowFields n fs → MeanFields m fs ps → total (weight_to n m) ps ≡ tree_fields fs
  weights_fields n m no_fields ps low mean = ap (total (weight_to n m)) mean
  weights_fields n m (field k d fs) [] low mean = absurd mean
  weights_fields n m (field k d fs) (p ∷ ps) low mean =
      omega (arith, weight_is n m d p low.0 mean.0, weights_fields n m fs ps low.1 mean.1)

-- a datum below a node keeps its nodes where that node is taken away
module _ (m : Map) (k : ℕ) (top : Datum) (means_top : Means m top (Key k)) where
  other_key : (d : Datum) (q : Part) (j : ℕ) → q ≡ Key j → tree d < tree top → Means m d q → j ≢ k
  other_key d q j is less means same =
      let here : Means m d (Key k) = subst (Means m d) (is ∙ ap (λ (i : ℕ). Key i) same) means in
      let e = ap tree (means_unique m d top (Key k) here means_top) in
      omega (arith, e, less)

  mutual
    drop_kept : (d : Datum) (q : Part) → tree d < tree top → Means m d q → Means (set m k None) d q
    drop_kept datum.Null q less means = means
    drop_kept (datum.Truth b) q less means = means
    drop_kept (datum.Whole z) q less means = means
    drop_kept (datum.Array items) q less means =
        let other = other_key (datum.Array items) q means.key means.is_key less means in
        record {
          key = means.key;
          is_key = means.is_key;
          parts = means.parts;
          is_node = get_or-set_other m k means.key None None other ∙ means.is_node;
          pass_all = drop_kept_all items means.parts (omega (arith, less)) means.pass_all;
        }
    drop_kept (datum.Record fs) q less means =
        let other = other_key (datum.Record fs) q means.key means.is_key less means in
        record {
          key = means.key;
          is_key = means.is_key;
          parts = means.parts;
          is_node = get_or-set_other m k means.key None None other ∙ means.is_node;
          pass_all = drop_kept_fields fs means.parts (omega (arith, less)) means.pass_all;
        }

    drop_kept_all : (ds : Data) (ps : List Part) → trees ds < tree top → MeanAll m ds ps → MeanAll (set m k None) ds ps
    drop_kept_all no_items ps less mean = mean
    drop_kept_all (item d ds) [] less mean = mean
    drop_kept_all (item d ds) (p ∷ ps) less mean =
        (drop_kept d p (omega (arith, less)) mean.0, drop_kept_all ds ps (omega (arith, less)) mean.1)

    drop_kept_fields : (fs : Fields) (ps : List Part) → tree_fields fs < tree top → MeanFields m fs ps → MeanFields (set m k None) fs ps
    drop_kept_fields no_fields ps less mean = mean
    drop_kept_fields (field n d fs) [] less mean = mean
    drop_kept_fields (field n d fs) (p ∷ ps) less mean =
        (drop_kept d p (omega (arith, less)) mean.0, drop_kept_fields fs ps (omega (arith, less)) mean.1)

all_low : (n : ℕ) (m : Map) → ((d : Datum) (p : Part) → Means m d p → Low n d) → (ds : Data) (ps : List Part) → MeanAll m ds ps → LowAll n ds
all_low n m each no_items ps mean = tt
all_low n m each (item d ds) [] mean = absurd mean
all_low n m each (item d ds) (p ∷ ps) mean = (each d p mean.0, all_low n m each ds ps mean.1)

fields_low : (n : ℕ) (m : Map) → ((d : Datum) (p : Part) → Means m d p → Low n d) → (fs : Fields) (ps : List Part) → MeanFields m fs ps → LowFields n fs
fields_low n m each no_fields ps mean = tt
fields_low n m each (field k d fs) [] mean = absurd mean
fields_low n m each (field k d fs) (p ∷ ps) mean = (each d p mean.0, fields_low n m each fs ps mean.1)

-- no datum is deeper than the nodes are many
low_from : (n : ℕ) (m : Map) → size m ≤ n → (d : Datum) (p : Part) → Means m d p → Low n d
low_from n m most datum.Null p means = tt
low_from n m most (datum.Truth b) p means = tt
low_from n m most (datum.Whole z) p means = tt
low_from zero m most (datum.Array items) p means = absurd (omega (arith, size-set m means.key _ means.is_node))
low_from (suc n) m most (datum.Array items) p means =
    let here : Means m (datum.Array items) (Key means.key) = subst (Means m (datum.Array items)) means.is_key means in
    let below = drop_kept_all m means.key (datum.Array items) here items means.parts (omega arith) means.pass_all in
    (n, refl, all_low n (set m means.key None) (low_from n (set m means.key None) (omega (arith, size-set m means.key _ means.is_node))) items means.parts below)
low_from zero m most (datum.Record fs) p means = absurd (omega (arith, size-set m means.key _ means.is_node))
low_from (suc n) m most (datum.Record fs) p means =
    let here : Means m (datum.Record fs) (Key means.key) = subst (Means m (datum.Record fs)) means.is_key means in
    let below = drop_kept_fields m means.key (datum.Record fs) here fs means.parts (omega arith) means.pass_all in
    (n, refl, fields_low n (set m means.key None) (low_from n (set m means.key None) (omega (arith, size-set m means.key _ means.is_node))) fs means.parts below)

low : (m : Map) (d : Datum) (p : Part) → Means m d p → Low (size m) d
low m d p means = low_from (size m) m (omega arith) d p means

pub weight-tree : (m : Map) (d : Datum) (p : Part) → Means m d p → weight m p ≡ tree d
weight-tree m d p means = weight_is (size m) m d p (low m d p means) means

pub total-trees : (m : Map) (ds : Data) (ps : List Part) → MeanAll m ds ps → total (weight m) ps ≡ trees ds
total-trees m ds ps mean = weights_are (size m) m ds ps (all_low (size m) m (low m) ds ps mean) mean
