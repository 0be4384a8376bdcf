-- What writes at a slot and new nodes keep.
use Rattle.std.proofs.Common.{◌≡◌, ◌≢◌, inl, inr, ℕ, zero, suc, ◌+◌, ◌≤◌, ◌<◌, List, [], ◌∷◌, ◌++◌, set, get_or, length, Option, Some, None, IsSome, refl, sym, ◌∙◌, ap, subst, arith}
use Rattle.std.proofs.lemmas.Bool.{cases_eq}
use Rattle.slab.specs.Slab.{get, with_value}
use Rattle.slab.proofs.SlabLemmas.{Updates-with_value}
use Rattle.wy_value.specs.declared.shapes.Shapes.{Shapes}
use Rattle.wy_value.specs.Datum.{Datum, Data, no_items, item, Fields, no_fields, field}
use Rattle.wy_value.specs.Datum as datum
use Rattle.wy_value.specs.Values.{names_of}
use Rattle.wy_heap.specs.declared.part.Part.{Part}
use Rattle.wy_heap.specs.declared.part.Part.TheVariants.{Null, Key}
use Rattle.wy_heap.specs.declared.node.Shape.{Shape}
use Rattle.wy_heap.specs.declared.node.Node.{Node}
use Rattle.wy_heap.specs.declared.heap.Heap.{Heap}
use Rattle.wy_heap.specs.Nodes.{Form, record_form, form_of, Body, Map, body_of, map_of, at, holds, held, slot_holds, inner, count_of, count_at, parts_in}
use Rattle.wy_heap.specs.Meaning.{data_in, Means, MeanAll, IsNode, IsSplit, IsMeant}
use Rattle.wy_heap.specs.Standing.{IsCounted, Counts, Keeps}
use Rattle.wy_heap.specs.Slots.{put_nth, put_field, part_of}
use Rattle.wy_heap.specs.Making.{IsNew}
use Rattle.wy_heap.specs.Changing.{Leads, Changes, Adds, Joins, Swaps, IsNodeSlot, AreThere, Fits, Builds}
use Rattle.wy_heap.proofs.CountLemmas.{held-append, held-set, holds-get_or, holds_one, holds_other, holds_is, inner_updated, slot-le-inner, inner_part}
use Rattle.wy_heap.proofs.ChangeLemmas.{at-map_of, at_changed, at_others, count_changed, count_others, contains_from_at, at_from_contains, count_there, count_none, at_none}
use Rattle.wy_heap.proofs.MeaningLemmas.{Each, IsClosed, means_kept, mean_all_kept, each_held, means_from_node, node_from_means, split_of, node_at, same_form}
use Rattle.wy_heap.proofs.LeadLemmas.{part_meant, held_meant}

-- ---- a node more, in a map where its parts have their holders already

pub record Grows (c : ℕ → ℕ) (m : Map) (n : Heap) (key : ℕ) (form : Form) (parts : List Part) : Type 0 where
  pub none : at m key ≡ None
  pub zero_count : c key ≡ 0
  pub is : at (map_of n) key ≡ Some (record { form = form; parts = parts })
  pub count : count_at n key ≡ 1
  pub counts : (k : ℕ) → k ≢ key → count_at n k ≡ c k
  pub others : (k : ℕ) → k ≢ key → at (map_of n) k ≡ at m k

Any : Part → Type 0
Any q = Unit {0}

each_any : (ps : List Part) → Each Any ps
unfolding Any
each_any [] = tt
each_any (p ∷ ps) = (tt, each_any ps)

module _ (c : ℕ → ℕ) (m : Map) (n : Heap) (key : ℕ) (form : Form) (parts : List Part) (grows : Grows c m n key form parts) where
  pub grown_stays : (k : ℕ) (b : Body) → at m k ≡ Some b → at (map_of n) k ≡ Some b
  grown_stays k b was = elim (cases_eq k key) [
    | inl same ↦ absurd (let none : at m k ≡ None = ap (at m) same ∙ grows.none in cc)
    | inr differ ↦ grows.others k differ ∙ was
  ]

  closed_more : IsClosed m (map_of n) Any
  closed_more k b safe was = (grown_stays k b was, each_any b.parts)

  pub kept_more : (q : Part) (d : Datum) → Means m d q → Means (map_of n) d q
  unfolding Any
  kept_more q d means = means_kept m (map_of n) Any closed_more d q tt means

  pub grown_node : (ds : Data) → MeanAll m ds parts → IsNode (map_of n) (Key key) form ds
  grown_node ds mean =
      record { key = key; is_key = refl; parts = parts; is_node = grows.is; pass_all = mean_all_kept m (map_of n) Any closed_more ds parts (each_any parts) mean }

  pub grown_counts : IsMeant (map_of n) (Key key) → (others : List Part) → IsCounted c m (parts ++ others) → Counts n (Key key ∷ others)
  grown_counts meant others counts = record {
    counted = λ k.
        let sums = inner_updated k m (map_of n) key grows.others in
        let slot_m = ap (slot_holds k) grows.none in
        let slot_n = ap (slot_holds k) grows.is in
        let more = held-append k parts others in
        let here = counts.counted k in
        elim (cases_eq k key) [
          | inl same ↦
              let count_n : count_at n k ≡ 1 = ap (count_at n) same ∙ grows.count in
              let count_m : c k ≡ 0 = ap c same ∙ grows.zero_count in
              let one : holds k (Key key) ≡ 1 = ap (λ (i : ℕ). holds i (Key key)) same ∙ holds_one key in
              omega arith
          | inr differ ↦
              let count_n : count_at n k ≡ c k = grows.counts k differ in
              let other = holds_other key k (λ e. differ (sym e)) in
              omega arith
        ];
    alive = λ k is. elim (cases_eq k key) [
      | inl same ↦ omega (arith, ap (count_at n) same, grows.count)
      | inr differ ↦ omega (arith, grows.counts k differ, counts.alive k (subst IsSome (grows.others k differ) is))
    ];
    there = count_there n;
    meant = λ k is. elim (cases_eq k key) [
      | inl same ↦ subst (λ (i : ℕ). IsMeant (map_of n) (Key i)) (sym same) meant
      | inr differ ↦
          let d = counts.meant k (subst IsSome (grows.others k differ) is) in
          (d.0, kept_more (Key k) d.0 d.1)
    ];
  }

-- a node whose parts' holds went over to it
module _ (h n : Heap) (key : ℕ) (shape : Shape) (parts : List Part) (adds : Adds h n key shape parts) where
  added_is : at (map_of n) key ≡ Some (record { form = form_of h.shapes shape; parts = parts })
  added_is =
      at_changed h n key (Some adds.node) adds.changes
      ∙ ap (λ (s : Shape). Some (record { form = form_of h.shapes s; parts = adds.node.parts.items })) adds.shape_is
      ∙ ap (λ (ps : List Part). Some (record { form = form_of h.shapes shape; parts = ps })) adds.parts_are

  added_grows : Grows (count_at h) (map_of h) n key (form_of h.shapes shape) parts
  added_grows = record {
    none = at_none h key adds.vacant;
    zero_count = ap count_of adds.vacant;
    is = added_is;
    count = count_changed h n key (Some adds.node) adds.changes ∙ adds.one;
    counts = count_others h n key (Some adds.node) adds.changes;
    others = at_others h n key (Some adds.node) adds.changes;
  }

  pub added_new : IsNew (map_of h) (map_of n) (Key key) (form_of h.shapes shape) parts
  added_new = record { key = key; is_key = refl; vacant = added_grows.none; is = added_grows.is; others = added_grows.others }

  pub added_node : (ds : Data) → MeanAll (map_of h) ds parts → IsNode (map_of n) (Key key) (form_of h.shapes shape) ds
  added_node = grown_node (count_at h) (map_of h) n key (form_of h.shapes shape) parts added_grows

  pub added_stays : (k : ℕ) (b : Body) → at (map_of h) k ≡ Some b → at (map_of n) k ≡ Some b
  added_stays = grown_stays (count_at h) (map_of h) n key (form_of h.shapes shape) parts added_grows

  pub added_leads : Fits (map_of h) (form_of h.shapes shape) parts → (others : List Part) → Counts h (parts ++ others) → Leads h n (Key key ∷ []) others
  added_leads fits others counts = record {
    counts = grown_counts (count_at h) (map_of h) n key (form_of h.shapes shape) parts added_grows
        (fits.2, means_from_node (map_of n) fits.2 (Key key) (form_of h.shapes shape) fits.0 fits.3 (added_node fits.0 fits.1)) others counts;
    keeps = λ q d among means. kept_more (count_at h) (map_of h) n key (form_of h.shapes shape) parts added_grows q d means;
  }

-- the added node is within the cap where the others are
pub added_within : (h n : Heap) (key : ℕ) (shape : Shape) (parts : List Part) (cap : ℕ) → Adds h n key shape parts → 1 ≤ cap → ((k : ℕ) → count_at h k ≤ cap) → (k : ℕ) → count_at n k ≤ cap
added_within h n key shape parts cap adds some within k = elim (cases_eq k key) [
  | inl same ↦ omega (arith, ap (count_at n) same, count_changed h n key (Some adds.node) adds.changes, adds.one)
  | inr differ ↦ omega (arith, count_others h n key (Some adds.node) adds.changes k differ, within k)
]

-- ---- a node whose parts have a holder more

module _ (h n : Heap) (made : ℕ) (form : Form) (parts : List Part) (joins : Joins h n made form parts) (there : AreThere h parts) where
  raised : ℕ → ℕ
  raised k = count_at h k + held k parts

  not_held : held made parts ≡ 0
  not_held = elim (cases_eq (held made parts) 0) [
    | inl none ↦ none
    | inr some ↦ absurd (let is = at_from_contains h made (there made (omega (arith, some))) in let none = joins.vacant in let n : IsSome {T = Body} None = subst IsSome none is in cc)
  ]

  raised_zero : raised made ≡ 0
  unfolding raised
  raised_zero = omega (arith, count_none h made joins.vacant, not_held)

  raised_counts : (places : List Part) → Counts h places → IsCounted raised (map_of h) (parts ++ places)
  unfolding raised
  raised_counts places counts = record {
    counted = λ k. omega (arith, counts.counted k, held-append k parts places);
    alive = λ k is. omega (arith, counts.alive k is);
    there = λ k some. elim (cases_eq (held k parts) 0) [
      | inl none ↦ counts.there k (omega arith)
      | inr more ↦ counts.there k (omega (arith, counts.alive k (at_from_contains h k (there k (omega (arith, more))))))
    ];
    meant = counts.meant;
  }

  joined_grows : Grows raised (map_of h) n made form parts
  unfolding raised
  joined_grows = record {
    none = joins.vacant;
    zero_count = raised_zero;
    is = joins.is;
    count = joins.count;
    counts = joins.counts;
    others = joins.others;
  }

  joined_inner : (k : ℕ) → inner k (map_of n) ≡ inner k (map_of h) + held k parts
  joined_inner k = omega (arith, inner_updated k (map_of h) (map_of n) made joins.others, ap (slot_holds k) joins.vacant, ap (slot_holds k) joins.is)

  pub joined_builds : Fits (map_of h) form parts → Builds h n form parts made
  joined_builds fits = record {
    vacant = joins.vacant;
    count = joins.count;
    counts = λ others counts. grown_counts raised (map_of h) n made form parts joined_grows
        (fits.2, means_from_node (map_of n) fits.2 (Key made) form fits.0 fits.3 (grown_node raised (map_of h) n made form parts joined_grows fits.0 fits.1))
        others (raised_counts others counts);
    keeps = kept_more raised (map_of h) n made form parts joined_grows;
    node = grown_node raised (map_of h) n made form parts joined_grows;
    stays = grown_stays raised (map_of h) n made form parts joined_grows;
    more = λ k. elim (cases_eq k made) [
      | inl same ↦ omega (arith, ap (count_at h) same, count_none h made joins.vacant)
      | inr differ ↦ omega (arith, joins.counts k differ)
    ];
    fresh = λ k b was none. omega (arith, joined_inner k, none);
  }

-- ---- how a node joins

pub joined_by : (a b c d : Heap) (made : ℕ) (node : Node) (form : Form) → ((k : ℕ) → at (map_of b) k ≡ at (map_of a) k) → ((k : ℕ) → count_at b k ≡ count_at a k) → map_of c ≡ map_of b → ((k : ℕ) → count_at c k ≡ count_at b k + held k node.parts.items) → get c.nodes made ≡ None → Changes c d made (Some node) → node.count ≡ 1 → form_of c.shapes node.shape ≡ form → Joins a d made form node.parts.items
joined_by a b c d made node form nodes same raised counts vacant changes one form_is =
    let first : (k : ℕ) → at (map_of c) k ≡ at (map_of a) k = λ k. ap (λ (m : Map). at m k) raised ∙ nodes k in
    record {
      vacant = sym (first made) ∙ at_none c made vacant;
      is = at_changed c d made (Some node) changes ∙ ap (λ (f : Form). Some (record { form = f; parts = node.parts.items })) form_is;
      count = count_changed c d made (Some node) changes ∙ one;
      counts = λ k differ. omega (arith, count_others c d made (Some node) changes k differ, counts k, same k);
      others = λ k differ. at_others c d made (Some node) changes k differ ∙ first k;
    }

-- ---- a write at a slot

body_with : (t : Shapes) (old new : Node) (ps : List Part) → new.shape ≡ old.shape → new.parts.items ≡ ps → body_of t (Some new) ≡ Some (record { form = form_of t old.shape; parts = ps })
body_with t old new ps e f =
    ap (λ (s : Shape). Some (record { form = form_of t s; parts = new.parts.items })) e
    ∙ ap (λ (qs : List Part). Some (record { form = form_of t old.shape; parts = qs })) f

pub swapped : (h : Heap) (key place : ℕ) (part : Part) (old new : Node) → get h.nodes key ≡ Some old → new.count ≡ old.count → new.shape ≡ old.shape → new.parts.items ≡ set old.parts.items place part → IsNodeSlot (map_of h) key place → Swaps h (record h { nodes = with_value h.nodes key new }) key place part
swapped h key place part old new was count shape parts there =
    let n : Heap = record h { nodes = with_value h.nodes key new } in
    let changes : Changes h n key (Some new) = record { shapes = refl; updates = Updates-with_value h.nodes key new (subst IsSome (sym was) refl) } in
    let body : Body = record { form = form_of h.shapes old.shape; parts = old.parts.items } in
    let at_h : at (map_of h) key ≡ Some body = at-map_of h key ∙ ap (body_of h.shapes) was in
    let first = there.was in
    let same : Some there.body ≡ Some body = sym first ∙ at_h in
    record {
      body = body;
      was = at_h;
      within = subst (λ (ps : List Part). place < length ps) (ap parts_in same) there.within;
      is = at_changed h n key (Some new) changes ∙ body_with h.shapes old new (set old.parts.items place part) shape parts;
      counts = λ k. elim (cases_eq k key) [
        | inl e ↦ ap (count_at n) e ∙ count_changed h n key (Some new) changes ∙ count ∙ sym (ap count_of was) ∙ ap (count_at h) (sym e)
        | inr differ ↦ count_others h n key (Some new) changes k differ
      ];
      others = at_others h n key (Some new) changes;
    }

pub mean_all-set : (m : Map) (ds : Data) (ps : List Part) (i : ℕ) (u : Datum) (q : Part) → MeanAll m ds ps → Means m u q → MeanAll m (put_nth ds i u) (set ps i q)
mean_all-set m no_items [] i u q mean means = mean
mean_all-set m no_items (p ∷ ps) i u q mean means = absurd (omega (arith, ap length mean))
mean_all-set m (item d ds) [] i u q mean means = absurd mean
mean_all-set m (item d ds) (p ∷ ps) zero u q mean means = (means, mean.1)
mean_all-set m (item d ds) (p ∷ ps) (suc i) u q mean means = (mean.0, mean_all-set m ds ps i u q mean.1 means)

-- ---- a datum with another one at a place

names_of-put_field : (fs : Fields) (i : ℕ) (u : Datum) → names_of (put_field fs i u) ≡ names_of fs
names_of-put_field no_fields i u = refl
names_of-put_field (field n d fs) zero u = refl
names_of-put_field (field n d fs) (suc i) u = ap (λ (ns : List (List ℕ)). n ∷ ns) (names_of-put_field fs i u)

data_in-put_field : (fs : Fields) (i : ℕ) (u : Datum) → data_in (put_field fs i u) ≡ put_nth (data_in fs) i u
data_in-put_field no_fields i u = refl
data_in-put_field (field n d fs) zero u = refl
data_in-put_field (field n d fs) (suc i) u = ap (λ (ds : Data). item d ds) (data_in-put_field fs i u)

-- the datum with another one at this place
abbrev pub put_at : Datum → ℕ → Datum → Datum
put_at datum.Null i u = datum.Null
put_at (datum.Truth b) i u = datum.Truth b
put_at (datum.Whole z) i u = datum.Whole z
put_at (datum.Array items) i u = datum.Array (put_nth items i u)
put_at (datum.Record fs) i u = datum.Record (put_field fs i u)

pub split-put_at : (d : Datum) (form : _) (ds : Data) (i : ℕ) (u : Datum) → IsSplit d form ds → IsSplit (put_at d i u) form (put_nth ds i u)
split-put_at datum.Null form ds i u split = split
split-put_at (datum.Truth b) form ds i u split = split
split-put_at (datum.Whole z) form ds i u split = split
split-put_at (datum.Array items) form ds i u split = (split.0, ap (λ (es : Data). put_nth es i u) split.1)
split-put_at (datum.Record fs) form ds i u split =
    (split.0 ∙ ap record_form (sym (names_of-put_field fs i u)), ap (λ (es : Data). put_nth es i u) split.1 ∙ sym (data_in-put_field fs i u))

-- ---- a write in a node that one place alone holds

IsOther : ℕ → Part → Type 0
IsOther key q = (q ≡ Key key) → ⊥

module _ (h n : Heap) (key place : ℕ) (part out : Part) (swaps : Swaps h n key place part) (is_out : out ≡ part_of (at (map_of h) key) place) (others : List Part) (counts : Counts h (Key key ∷ part ∷ others)) (sole : count_at h key ≡ 1) where
  out_is : out ≡ get_or swaps.body.parts place Null
  out_is = is_out ∙ ap (λ (o : Option Body). part_of o place) swaps.was

  -- no slot holds the key, nor do the part and the other places
  only : (holds key part ≡ 0) × (held key others ≡ 0) × (inner key (map_of h) ≡ 0)
  only = let e = counts.counted key in let one = holds_one key in (omega arith, omega arith, omega arith)

  in_parts : held key swaps.body.parts ≡ 0
  in_parts = omega (arith, only.2, slot-le-inner key (map_of h) key, ap (slot_holds key) swaps.was)

  out_other : holds key out ≡ 0
  out_other = omega (arith, ap (holds key) out_is, holds-get_or key swaps.body.parts place, in_parts)

  is_other : (q : Part) → holds key q ≡ 0 → IsOther key q
  unfolding IsOther
  is_other q none e = omega (arith, ap (holds key) e, holds_one key)

  closed_other : IsClosed (map_of h) (map_of n) (IsOther key)
  unfolding IsOther
  closed_other k b safe was = (
    swaps.others k (λ e. safe (ap (λ (i : ℕ). Key i) e)) ∙ was,
    each_held (IsOther key) b.parts (λ q among e. omega (arith, among key e, slot-le-inner key (map_of h) k, ap (slot_holds key) was, only.2)),
  )

  pub swap_keeps : (q : Part) (d : Datum) → holds key q ≡ 0 → Means (map_of h) d q → Means (map_of n) d q
  swap_keeps q d other means = means_kept (map_of h) (map_of n) (IsOther key) closed_other d q (is_other q other) means

  each_other : (ps : List Part) → held key ps ≡ 0 → Each (IsOther key) ps
  each_other [] none = tt
  each_other (p ∷ ps) none = (is_other p (omega arith), each_other ps (omega arith))

  set_other : held key (set swaps.body.parts place part) ≡ 0
  set_other = omega (arith, held-set key swaps.body.parts place part swaps.within, in_parts, only.0)

  pub swap_node : (ds : Data) (u : Datum) → MeanAll (map_of h) ds swaps.body.parts → Means (map_of h) u part → IsNode (map_of n) (Key key) swaps.body.form (put_nth ds place u)
  swap_node ds u mean means = record {
    key = key;
    is_key = refl;
    parts = set swaps.body.parts place part;
    is_node = swaps.is;
    pass_all = mean_all_kept (map_of h) (map_of n) (IsOther key) closed_other (put_nth ds place u) (set swaps.body.parts place part) (each_other _ set_other)
        (mean_all-set (map_of h) ds swaps.body.parts place u part mean means);
  }

  pub swap_inner : (k : ℕ) → inner k (map_of n) + holds k out ≡ inner k (map_of h) + holds k part
  swap_inner k = omega (arith, inner_updated k (map_of h) (map_of n) key swaps.others, ap (slot_holds k) swaps.was, ap (slot_holds k) swaps.is, held-set k swaps.body.parts place part swaps.within, ap (holds k) out_is)

  -- the node stands for its datum with another one in the slot
  swap_meant : IsMeant (map_of n) (Key key)
  swap_meant =
      let d = counts.meant key (subst IsSome (sym swaps.was) refl) in
      let split = split_of (map_of h) d.0 (Key key) key refl d.1 in
      let node = node_at (map_of h) (Key key) key split.form split.data_of refl (node_from_means (map_of h) d.0 (Key key) split.form split.data_of split.is d.1) in
      let same : Some swaps.body ≡ Some (record { form = split.form; parts = node.parts }) = sym swaps.was ∙ node.is in
      let u = part_meant (map_of h) part (λ j e. held_meant h (Key key ∷ part ∷ others) counts j (omega (arith, ap (holds j) e, holds_one j))) in
      let mean = subst (MeanAll (map_of h) split.data_of) (sym (ap parts_in same)) node.mean in (
        put_at d.0 place u.0,
        means_from_node (map_of n) (put_at d.0 place u.0) (Key key) swaps.body.form (put_nth split.data_of place u.0)
            (subst (λ (f : Form). IsSplit (put_at d.0 place u.0) f (put_nth split.data_of place u.0)) (sym (same_form swaps.body (record { form = split.form; parts = node.parts }) same))
            (split-put_at d.0 split.form split.data_of place u.0 split.is))
            (swap_node split.data_of u.0 mean u.1),
      )

  pub swap_counts : Counts n (Key key ∷ out ∷ others)
  swap_counts = record {
    counted = λ k. omega (arith, swaps.counts k, counts.counted k, swap_inner k);
    alive = λ k is. elim (cases_eq k key) [
      | inl e ↦ omega (arith, swaps.counts k, counts.alive k (subst (λ (i : ℕ). IsSome (at (map_of h) i)) (sym e) (subst IsSome (sym swaps.was) refl)))
      | inr differ ↦ omega (arith, swaps.counts k, counts.alive k (subst IsSome (swaps.others k differ) is))
    ];
    there = count_there n;
    meant = λ k is. elim (cases_eq k key) [
      | inl e ↦ subst (λ (i : ℕ). IsMeant (map_of n) (Key i)) (sym e) swap_meant
      | inr differ ↦
          let d = counts.meant k (subst IsSome (swaps.others k differ) is) in
          (d.0, swap_keeps (Key k) d.0 (holds_other k key differ) d.1)
    ];
  }

  -- what was held beside the key, and what came out, stand for what they stood for
  pub swap_among : Keeps (map_of h) (map_of n) (out ∷ part ∷ others)
  swap_among q d among means =
      swap_keeps q d (elim (cases_eq (holds key q) 0) [
        | inl none ↦ none
        | inr some ↦ omega (arith, among key (holds_is key q (omega (arith, some))), only.0, only.1, out_other)
      ]) means

-- the parts of a node that is there are there
pub node_parts_there : (h : Heap) (places : List Part) (key : ℕ) (b : Body) → Counts h places → at (map_of h) key ≡ Some b → AreThere h b.parts
node_parts_there h places key b counts is k some =
    contains_from_at h k (count_there h k (omega (arith, counts.counted k, inner_part (map_of h) key k b is some)))

pub set_parts_there : (h : Heap) (places : List Part) (key : ℕ) (b : Body) (place : ℕ) → Counts h places → at (map_of h) key ≡ Some b → place < length b.parts → AreThere h (set b.parts place Null)
set_parts_there h places key b place counts is within k some =
    node_parts_there h places key b counts is k (omega (arith, held-set k b.parts place Null within))
