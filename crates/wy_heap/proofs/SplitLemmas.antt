-- A copy comes into a slot in place of the node that it held.
use Rattle.std.proofs.Common.{◌≡◌, ◌≢◌, inl, inr, ℕ, zero, suc, ◌+◌, ◌≤◌, ◌<◌, List, [], ◌∷◌, set, get_or, length, Option, Some, None, IsSome, refl, sym, ◌∙◌, ap, subst, arith}
use Rattle.std.proofs.lemmas.Bool.{cases_eq}
use Rattle.slab.specs.Slab.{get}
use Rattle.wy_value.specs.Datum.{Datum, Data, no_items, item, Fields, no_fields, field}
use Rattle.wy_value.specs.Datum as datum
use Rattle.wy_value.specs.Values.{names_of, length_of}
use Rattle.wy_heap.specs.declared.part.Part.{Part}
use Rattle.wy_heap.specs.declared.part.Part.TheVariants.{Null, Key}
use Rattle.wy_heap.specs.declared.node.Node.{Node}
use Rattle.wy_heap.specs.declared.heap.Heap.{Heap}
use Rattle.wy_heap.specs.Nodes.{Form, list_form, record_form, form_of, Body, Map, map_of, at, holds, held, slot_holds, inner, count_at, size, parts_in}
use Rattle.wy_heap.specs.Meaning.{data_in, Means, MeanAll, IsNode, IsSplit}
use Rattle.wy_heap.specs.Standing.{Counts}
use Rattle.wy_heap.specs.Slots.{nth, part_of}
use Rattle.wy_heap.specs.Weighing.{tree, trees}
use Rattle.wy_heap.specs.Freeing.{Frees}
use Rattle.wy_heap.specs.Changing.{Joins, Swaps, IsNodeSlot, Fits, Builds}
use Rattle.wy_heap.specs.Copying.{raised}
use Rattle.wy_heap.specs.Settling.{Splits}
use Rattle.wy_heap.proofs.CountLemmas.{held-set, inner_updated, slot-le-inner, holds_one, holds_other}
use Rattle.wy_heap.proofs.ChangeLemmas.{count_there, at_from_contains, not_there}
use Rattle.wy_heap.proofs.MeaningLemmas.{mean_all-length, mean_all-nth, means_unique, node_from_means, means_from_node, same_form}
use Rattle.wy_heap.proofs.SlotLemmas.{held_node, node_form, node_parts, body-node}
use Rattle.wy_heap.proofs.WeighLemmas.{trees-data_in, tree-nth}
use Rattle.wy_heap.proofs.WriteLemmas.{joined_builds, node_parts_there}
use Rattle.wy_heap.proofs.SizeLemmas.{size_joined, size_swapped}

-- ---- a write of a part that stands for what was there

mean_all_put : (m : Map) (ds : Data) (ps : List Part) (i : ℕ) (q : Part) → MeanAll m ds ps → Means m (nth ds i) q → i < length ps → MeanAll m ds (set ps i q)
mean_all_put m no_items ps i q mean means below = absurd (omega (arith, ap length mean))
mean_all_put m (item d ds) [] i q mean means below = absurd mean
mean_all_put m (item d ds) (p ∷ ps) zero q mean means below = (means, mean.1)
mean_all_put m (item d ds) (p ∷ ps) (suc i) q mean means below = (mean.0, mean_all_put m ds ps i q mean.1 means (omega arith))

module _ (s t : Heap) (key place : ℕ) (part : Part) (u : Datum) (swaps : Swaps s t key place part) (was : Means (map_of s) u (get_or swaps.body.parts place Null)) (new : Means (map_of s) u part) where
  each_kept : (n : ℕ) → ((d : Datum) (q : Part) → tree d ≤ n → Means (map_of s) d q → Means (map_of t) d q) → (ds : Data) (ps : List Part) → trees ds ≤ n → MeanAll (map_of s) ds ps → MeanAll (map_of t) ds ps
  each_kept n below no_items ps most mean = mean
  each_kept n below (item d ds) [] most mean = mean
  each_kept n below (item d ds) (p ∷ ps) most mean = (below d p (omega arith) mean.0, each_kept n below ds ps (omega arith) mean.1)

  node_kept : (n : ℕ) → ((d : Datum) (q : Part) → tree d ≤ n → Means (map_of s) d q → Means (map_of t) d q) → (form : Form) (ds : Data) (q : Part) → trees ds ≤ n → IsNode (map_of s) q form ds → IsNode (map_of t) q form ds
  node_kept n below form ds q most node =
      elim (cases_eq node.key key) [
        | inr differ ↦ record { key = node.key; is_key = node.is_key; parts = node.parts; is_node = swaps.others node.key differ ∙ node.is_node; pass_all = each_kept n below ds node.parts most node.pass_all }
        | inl same ↦
            let body : Some swaps.body ≡ Some (record { form = form; parts = node.parts }) = sym swaps.was ∙ ap (at (map_of s)) (sym same) ∙ node.is_node in
            let mean : MeanAll (map_of s) ds swaps.body.parts = subst (MeanAll (map_of s) ds) (sym (ap parts_in body)) node.pass_all in
            let inside : place < length_of ds = omega (arith, mean_all-length (map_of s) ds swaps.body.parts mean, swaps.within) in
            let child = mean_all-nth (map_of s) ds swaps.body.parts place mean swaps.within in
            let is : u ≡ nth ds place = means_unique (map_of s) u (nth ds place) (get_or swaps.body.parts place Null) was child in
            let moved = below (nth ds place) part (omega (arith, tree-nth ds place inside, most)) (subst (λ (x : Datum). Means (map_of s) x part) is new) in
            record {
              key = key;
              is_key = node.is_key ∙ ap (λ (i : ℕ). Key i) same;
              parts = set swaps.body.parts place part;
              is_node = swaps.is ∙ ap (λ (f : Form). Some (record { form = f; parts = set swaps.body.parts place part })) (same_form swaps.body (record { form = form; parts = node.parts }) body);
              pass_all = mean_all_put (map_of t) ds swaps.body.parts place part (each_kept n below ds swaps.body.parts most mean) moved swaps.within;
            }
      ]

  kept_below : (n : ℕ) (d : Datum) (q : Part) → tree d ≤ n → Means (map_of s) d q → Means (map_of t) d q
  kept_below n datum.Null q most means = means
  kept_below n (datum.Truth b) q most means = means
  kept_below n (datum.Whole z) q most means = means
  kept_below zero (datum.Array items) q most means = absurd (omega arith)
  kept_below (suc n) (datum.Array items) q most means =
      means_from_node (map_of t) (datum.Array items) q list_form items (refl, refl)
      (node_kept n (kept_below n) list_form items q (omega arith) (node_from_means (map_of s) (datum.Array items) q list_form items (refl, refl) means))
  kept_below zero (datum.Record fs) q most means = absurd (omega arith)
  kept_below (suc n) (datum.Record fs) q most means =
      means_from_node (map_of t) (datum.Record fs) q (record_form (names_of fs)) (data_in fs) (refl, refl)
      (node_kept n (kept_below n) (record_form (names_of fs)) (data_in fs) q (omega (arith, trees-data_in fs)) (node_from_means (map_of s) (datum.Record fs) q (record_form (names_of fs)) (data_in fs) (refl, refl) means))

  -- whoever holds it, everything stands for what it stood for
  pub same_swap : (q : Part) (d : Datum) → Means (map_of s) d q → Means (map_of t) d q
  same_swap q d means = kept_below (tree d) d q (omega arith) means

  -- the part went in, and what was there came out
  pub same_swap_counts : (others : List Part) → Counts s (part ∷ others) → Counts t (get_or swaps.body.parts place Null ∷ others)
  same_swap_counts others counts = record {
    counted = λ k. omega (arith, swaps.counts k, counts.counted k, inner_updated k (map_of s) (map_of t) key swaps.others, ap (slot_holds k) swaps.was, ap (slot_holds k) swaps.is, held-set k swaps.body.parts place part swaps.within);
    alive = λ k is. elim (cases_eq k key) [
      | inl e ↦ omega (arith, swaps.counts k, counts.alive k (subst (λ (i : ℕ). IsSome (at (map_of s) i)) (sym e) (subst IsSome (sym swaps.was) refl)))
      | inr differ ↦ omega (arith, swaps.counts k, counts.alive k (subst IsSome (swaps.others k differ) is))
    ];
    there = count_there t;
    meant = λ k is. elim (cases_eq k key) [
      | inl e ↦
          let d = counts.meant k (subst (λ (i : ℕ). IsSome (at (map_of s) i)) (sym e) (subst IsSome (sym swaps.was) refl)) in
          (d.0, same_swap (Key k) d.0 d.1)
      | inr differ ↦
          let d = counts.meant k (subst IsSome (swaps.others k differ) is) in
          (d.0, same_swap (Key k) d.0 d.1)
    ];
  }

-- ---- letting go of one of many holds

pub let_go_counts : (s t : Heap) (p : Part) (places : List Part) → Counts s (p ∷ places) → map_of t ≡ map_of s → (first : Option ℕ) → first ≡ None → Frees t first places → Counts t places
let_go_counts s t p places counts same first none (j ∷ js, free) = absurd (let some = free.chain.0 in cc)
let_go_counts s t p places counts same first none ([], free) = record {
  counted = free.counted;
  alive = λ k is. omega (arith, free.alive k is);
  there = count_there t;
  meant = λ k is.
      let d = counts.meant k (subst (λ (m : Map). IsSome (at m k)) same is) in
      (d.0, subst (λ (m : Map). Means m d.0 (Key k)) (sym same) d.1);
}

-- a copy of a whole node stands for a datum
pub whole_fits : (h : Heap) (places : List Part) (key : ℕ) (n : Node) → Counts h places → get h.nodes key ≡ Some n → Fits (map_of h) (form_of h.shapes n.shape) n.parts.items
whole_fits h places key n counts was =
    let d = counts.meant key (subst IsSome (sym (body-node h key n was)) refl) in
    let node = held_node h (Key key) key d.0 refl d.1 in (
      node.data_of,
      subst (MeanAll (map_of h) node.data_of) (sym (node_parts h key n d.0 node was)) node.mean,
      d.0,
      subst (λ (f : Form). IsSplit d.0 f node.data_of) (sym (node_form h key n d.0 node was)) node.split,
    )

-- ---- a copy in a slot

module _ (s0 s1 s2 : Heap) (node place key copy : ℕ) (n : Node) (was : get s0.nodes key ≡ Some n) (joins : Joins s0 s1 copy (form_of s0.shapes n.shape) n.parts.items) (there : IsNodeSlot (map_of s0) node place) (is : part_of (at (map_of s0) node) place ≡ Key key) (swaps : Swaps s1 s2 node place (Key copy)) where
  key_body : Body
  key_body = record { form = form_of s0.shapes n.shape; parts = n.parts.items }

  key_was : at (map_of s0) key ≡ Some (record { form = form_of s0.shapes n.shape; parts = n.parts.items })
  key_was = body-node s0 key n was

  not_copy : node ≢ copy
  not_copy same =
      let none = joins.vacant in
      let some : at (map_of s0) copy ≡ Some there.body = ap (at (map_of s0)) (sym same) ∙ there.was in
      cc

  same_node : at (map_of s1) node ≡ at (map_of s0) node
  same_node = joins.others node not_copy

  pub split_slot : part_of (at (map_of s1) node) place ≡ Key key
  split_slot = ap (λ (o : Option Body). part_of o place) same_node ∙ is

  old_is : get_or swaps.body.parts place Null ≡ Key key
  old_is = sym (ap (λ (o : Option Body). part_of o place) swaps.was) ∙ split_slot

  split_inner : (k : ℕ) → inner k (map_of s2) + holds k (Key key) ≡ inner k (map_of s0) + held k n.parts.items + holds k (Key copy)
  split_inner k = omega (
    arith,
    inner_updated k (map_of s0) (map_of s1) copy joins.others,
    ap (slot_holds k) joins.vacant,
    ap (slot_holds k) joins.is,
    inner_updated k (map_of s1) (map_of s2) node swaps.others,
    ap (slot_holds k) swaps.was,
    ap (slot_holds k) swaps.is,
    held-set k swaps.body.parts place (Key copy) swaps.within,
    ap (holds k) old_is,
  )

  module _ (places : List Part) (counts : Counts s0 places) where
    builds : Builds s0 s1 (form_of s0.shapes n.shape) n.parts.items copy
    builds = joined_builds s0 s1 copy (form_of s0.shapes n.shape) n.parts.items joins
        (node_parts_there s0 places key (record { form = form_of s0.shapes n.shape; parts = n.parts.items }) counts key_was) (whole_fits s0 places key n counts was)

    value : (d : Datum) × Means (map_of s0) d (Key key)
    value = counts.meant key (subst IsSome (sym key_was) refl)

    value_copy : Means (map_of s1) value.0 (Key copy)
    value_copy =
        let node_is = held_node s0 (Key key) key value.0 refl value.1 in
        means_from_node (map_of s1) value.0 (Key copy) (form_of s0.shapes n.shape) node_is.data_of
        (subst (λ (f : Form). IsSplit value.0 f node_is.data_of) (sym (node_form s0 key n value.0 node_is was)) node_is.split)
        (builds.node node_is.data_of (subst (MeanAll (map_of s0) node_is.data_of) (sym (node_parts s0 key n value.0 node_is was)) node_is.mean))

    value_old : Means (map_of s1) value.0 (get_or swaps.body.parts place Null)
    value_old = subst (Means (map_of s1) value.0) (sym old_is) (builds.keeps (Key key) value.0 value.1)

    split_keeps : (q : Part) (d : Datum) → Means (map_of s0) d q → Means (map_of s2) d q
    split_keeps q d means = same_swap s1 s2 node place (Key copy) value.0 swaps value_old value_copy q d (builds.keeps q d means)

    pub split_counts : Counts s2 (Key key ∷ places)
    split_counts = subst (λ (p : Part). Counts s2 (p ∷ places)) old_is
        (same_swap_counts s1 s2 node place (Key copy) value.0 swaps value_old value_copy places (builds.counts places counts))

  old_key : (k : ℕ) → IsSome (at (map_of s0) k) → k ≢ copy
  old_key k some same = not_there (at (map_of s0) k) (ap (at (map_of s0)) same ∙ joins.vacant) some

  module _ (o : Heap) (same : map_of o ≡ map_of s2) (lets : (others : List Part) → Counts s2 (Key key ∷ others) → Counts o others) (copies : o.copies ≡ raised s0.copies 1) (cap : o.cap ≡ s0.cap) (over : s0.cap < count_at s0 key) (places : List Part) (counts : Counts s0 places) where
    split_at : (k : ℕ) → at (map_of o) k ≡ at (map_of s2) k
    split_at k = ap (λ (m : Map). at m k) same

    split_count : (k : ℕ) → count_at o k + holds k (Key key) ≡ count_at s0 k + held k n.parts.items + holds k (Key copy)
    split_count k =
        let after = lets places (split_counts places counts) in
        omega (arith, after.counted k, counts.counted k, split_inner k, ap (inner k) same)

    pub split_splits : Splits s0 o node place key copy
    split_splits = record {
      vacant = joins.vacant;
      key_body = record { form = form_of s0.shapes n.shape; parts = n.parts.items };
      key_was = key_was;
      body = swaps.body;
      was = sym same_node ∙ swaps.was;
      within = swaps.within;
      part = old_is;
      is = split_at node ∙ swaps.is;
      copy_is = split_at copy ∙ swaps.others copy (λ e. not_copy (sym e)) ∙ joins.is;
      others = λ k differ other. split_at k ∙ swaps.others k differ ∙ joins.others k other;
      counts = split_count;
      settles = record {
        counts = λ others c. lets others (split_counts others c);
        keeps = λ q d means. subst (λ (m : Map). Means m d q) (sym same) (split_keeps places counts q d means);
        fresh = λ k some none.
            let other = old_key k some in (
              elim (cases_eq k node) [
                | inl e ↦ subst IsSome (sym (split_at k ∙ ap (at (map_of s2)) e ∙ swaps.is)) refl
                | inr differ ↦ subst IsSome (sym (split_at k ∙ swaps.others k differ ∙ joins.others k other)) some
              ],
              omega (arith, split_inner k, ap (inner k) same, none, slot-le-inner k (map_of s0) key, ap (slot_holds k) key_was, holds_other copy k (λ e. other (sym e))),
            );
        cap = cap;
        high = λ k. elim (cases_eq k key) [
          | inl e ↦ omega (arith, split_count k, ap (λ (i : ℕ). holds i (Key key)) e, holds_one key, ap (count_at s0) e, over)
          | inr differ ↦ omega (arith, split_count k, holds_other key k (λ e. differ (sym e)))
        ];
      };
      copies = (1, omega (arith, ap size same, size_swapped s1 s2 node place (Key copy) swaps, size_joined s0 s1 copy (form_of s0.shapes n.shape) n.parts.items joins), copies);
    }

pub many_still : (s0 s1 s2 : Heap) (key copy : ℕ) (n : Node) (form : Form) (parts : List Part) → Joins s0 s1 copy form parts → get s0.nodes key ≡ Some n → 2 ≤ count_at s0 key → ((k : ℕ) → count_at s2 k ≡ count_at s1 k) → 2 ≤ count_at s2 key
many_still s0 s1 s2 key copy n form parts joins was many counts =
    let some : IsSome (at (map_of s0) key) = at_from_contains s0 key (subst IsSome (sym was) refl) in
    let differ : key ≢ copy = λ same. not_there (at (map_of s0) key) (ap (at (map_of s0)) same ∙ joins.vacant) some in
    omega (arith, counts key, joins.counts key differ, many)
