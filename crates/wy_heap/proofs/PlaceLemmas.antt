-- A write at a path in place, a level at a time.
use Rattle.std.proofs.Common.{◌≡◌, ◌≢◌, inl, inr, ℕ, ◌+◌, List, [], ◌∷◌, set, get_or, Option, Some, None, refl, sym, ◌∙◌, ap, subst, arith}
use Rattle.std.proofs.lemmas.Bool.{cases_eq}
use Rattle.std.proofs.lemmas.List.{set-set, set-get_or}
use Rattle.wy_value.specs.Datum.{Datum, Data}
use Rattle.wy_value.specs.Datum as datum
use Rattle.wy_heap.specs.declared.part.Part.{Part}
use Rattle.wy_heap.specs.declared.part.Part.TheVariants.{Null, Bool, Int, Key}
use Rattle.wy_heap.specs.declared.heap.Heap.{Heap}
use Rattle.wy_heap.specs.Nodes.{Form, Body, map_of, at, holds, slot_holds, inner, count_at, parts_in, form_in}
use Rattle.wy_heap.specs.Meaning.{Means, MeanAll, IsSplit}
use Rattle.wy_heap.specs.Standing.{Counts, Keeps}
use Rattle.wy_heap.specs.Slots.{Step, child, put, put_nth, place_in, part_of, part_at}
use Rattle.wy_heap.specs.Changing.{SameNodes, Leads, Swaps, IsNodeSlot, NoNew, Wrote}
use Rattle.wy_heap.specs.Putting.{Sole}
use Rattle.wy_heap.proofs.CountLemmas.{holds_one, holds_other, holds-get_or, slot-le-inner}
use Rattle.wy_heap.proofs.MeaningLemmas.{means_unique, means_from_node, same_form}
use Rattle.wy_heap.proofs.LeadLemmas.{reordered}
use Rattle.wy_heap.proofs.WriteLemmas.{put_at, swap_counts, swap_among, swap_node, swap_inner}
use Rattle.wy_heap.proofs.PathLemmas.{Hole, Level, level_inside, level_split, level_empty, level_within, level_again, node_slot, done_counts, done_keeps, done_value, done_inner}

module _ (s0 : Heap) (whole : Part) (key place : ℕ) (step : Step) (rest : List Step) (inside : Part) (level : Level s0 whole key place step rest inside) (s1 : Heap) (swaps : Swaps s0 s1 key place Null) (sole : count_at s0 key ≡ 1) (part : Part) (others : List Part) (counts : Counts s0 (whole ∷ part ∷ others)) where
  start : Counts s0 (Key key ∷ Null ∷ part ∷ others)
  start = reordered (count_at s0) (map_of s0) (whole ∷ part ∷ others) (Key key ∷ Null ∷ part ∷ others) (λ k. omega (arith, ap (holds k) level.is_key)) counts

  same_body : Some swaps.body ≡ Some level.body
  same_body = sym swaps.was ∙ level.was

  first : Counts s1 (Key key ∷ inside ∷ part ∷ others)
  first = swap_counts s0 s1 key place Null inside swaps level.inside_is (part ∷ others) start sole

  first_value : Means (map_of s1) (put_at level.value place datum.Null) (Key key)
  first_value =
      means_from_node (map_of s1) (put_at level.value place datum.Null) (Key key) swaps.body.form (put_nth level.data_of place datum.Null)
      (subst (λ (f : Form). IsSplit (put_at level.value place datum.Null) f (put_nth level.data_of place datum.Null)) (sym (same_form swaps.body level.body same_body))
      (level_split s0 whole key place step rest inside level))
      (swap_node s0 s1 key place Null inside swaps level.inside_is (part ∷ others) start sole level.data_of datum.Null
      (subst (MeanAll (map_of s0) level.data_of) (sym (ap parts_in same_body)) level.mean) refl)

  pub place_hole : Hole s1 key place level.body.form (put_nth level.data_of place datum.Null) (put_at level.value place datum.Null) (inside ∷ part ∷ []) others
  place_hole = record {
    counts = reordered (count_at s1) (map_of s1) (Key key ∷ inside ∷ part ∷ others) (inside ∷ part ∷ Key key ∷ others) (λ k. omega arith) first;
    free = omega (arith, first.counted key, swaps.counts key, sole, holds_one key);
    split = level_split s0 whole key place step rest inside level;
    value = first_value;
    empty = level_empty s0 whole key place step rest inside level;
    within = level_within s0 whole key place step rest inside level;
  }

  -- parts beside the node
  place_among : Keeps (map_of s0) (map_of s1) (inside ∷ Null ∷ part ∷ others)
  place_among = swap_among s0 s1 key place Null inside swaps level.inside_is (part ∷ others) start sole

  pub place_inside : Means (map_of s1) (child level.value step) inside
  place_inside = place_among inside (child level.value step) (λ k e. omega (arith, ap (holds k) e, holds_one k)) (level_inside s0 whole key place step rest inside level)

  place_part : (u : Datum) → Means (map_of s0) u part → Means (map_of s1) u part
  place_part u means = place_among part u (λ k e. omega (arith, ap (holds k) e, holds_one k)) means

  place_old : (k : ℕ) → holds k whole ≡ 0 → k ≢ key
  place_old k none same = omega (arith, none, ap (holds k) level.is_key, ap (λ (i : ℕ). holds i (Key key)) same, holds_one key)

  place_still : (k : ℕ) (b : Body) → holds k whole ≡ 0 → at (map_of s0) k ≡ Some b → at (map_of s1) k ≡ Some b
  place_still k b none was = swaps.others k (place_old k none) ∙ was

  place_inner : (k : ℕ) → inner k (map_of s0) ≡ 0 → holds k inside + inner k (map_of s1) ≡ 0
  place_inner k none = omega (arith, none, swap_inner s0 s1 key place Null inside swaps level.inside_is (part ∷ others) start sole k)

  module _ (s2 s3 : Heap) (below out : Part) (wrote : Wrote s1 s2 (inside ∷ part ∷ []) inside rest part below) (again : Swaps s2 s3 key place below) (is_out : out ≡ part_of (at (map_of s2) key) place) where
    place_leads : Leads s0 s3 (Key key ∷ []) others
    place_leads = record {
      counts = done_counts s1 s2 key place level.body.form (put_nth level.data_of place datum.Null) (put_at level.value place datum.Null) (inside ∷ part ∷ []) others place_hole inside rest part below wrote s3 out again is_out;
      keeps = λ q d among means. done_keeps s1 s2 key place level.body.form (put_nth level.data_of place datum.Null) (put_at level.value place datum.Null) (inside ∷ part ∷ []) others place_hole inside rest part below wrote s3 out again is_out q d among
          (place_among q d (λ k e. omega (arith, among k e)) means);
    }

    place_fresh : NoNew (map_of s0) (map_of s3) (whole ∷ part ∷ []) (Key key ∷ [])
    place_fresh k b was none =
        let apart : holds k whole ≡ 0 = omega (arith, none) in
        let within = place_inner k (omega (arith, none)) in
        let after = wrote.fresh k b (place_still k b apart was) (omega (arith, within, none)) in
        let inner3 = done_inner s1 s2 key place level.body.form (put_nth level.data_of place datum.Null) (put_at level.value place datum.Null) (inside ∷ part ∷ []) others place_hole inside rest part below wrote s3 out again is_out k (omega (arith, after)) in
        omega (arith, inner3, holds_other key k (λ e. place_old k apart (sym e)))

    place_value : (w u : Datum) → Means (map_of s0) w whole → Means (map_of s0) u part → Means (map_of s3) (put w (step ∷ rest) u) (Key key)
    place_value w u means_w means_u =
        let x = put (child level.value step) rest u in
        let done = done_value s1 s2 key place level.body.form (put_nth level.data_of place datum.Null) (put_at level.value place datum.Null) (inside ∷ part ∷ []) others place_hole inside rest part below wrote s3 out again is_out
        x (wrote.value (child level.value step) u place_inside (place_part u means_u)) in
        subst (λ (v : Datum). Means (map_of s3) (put v (step ∷ rest) u) (Key key)) (means_unique (map_of s0) level.value w whole level.means means_w)
        (level_again s0 whole key place step rest inside level (map_of s3) x done)

pub place_wrote : (s0 : Heap) (whole : Part) (key place : ℕ) (step : Step) (rest : List Step) (inside : Part) (level : Level s0 whole key place step rest inside) (s1 : Heap) (swaps : Swaps s0 s1 key place Null) (sole : count_at s0 key ≡ 1) (part : Part) (beside : (others : List Part) × Counts s0 (whole ∷ part ∷ others)) (s2 s3 : Heap) (below out : Part) (wrote : Wrote s1 s2 (inside ∷ part ∷ []) inside rest part below) (again : Swaps s2 s3 key place below) (is_out : out ≡ part_of (at (map_of s2) key) place) → Wrote s0 s3 (whole ∷ part ∷ []) whole (step ∷ rest) part (Key key)
place_wrote s0 whole key place step rest inside level s1 swaps sole part beside s2 s3 below out wrote again is_out = record {
  leads = λ others counts. place_leads s0 whole key place step rest inside level s1 swaps sole part others counts s2 s3 below out wrote again is_out;
  value = place_value s0 whole key place step rest inside level s1 swaps sole part beside.0 beside.1 s2 s3 below out wrote again is_out;
  fresh = place_fresh s0 whole key place step rest inside level s1 swaps sole part beside.0 beside.1 s2 s3 below out wrote again is_out;
}

-- refused further down: what was in the slot goes back
pub place_refused : (s0 : Heap) (whole : Part) (key place : ℕ) (step : Step) (rest : List Step) (inside : Part) (level : Level s0 whole key place step rest inside) (s1 s2 s3 : Heap) → Swaps s0 s1 key place Null → SameNodes s1 s2 → Swaps s2 s3 key place inside → SameNodes s0 s3
place_refused s0 whole key place step rest inside level s1 s2 s3 swaps same again = record {
  nodes = λ k. elim (cases_eq k key) [
    | inr differ ↦ again.others k differ ∙ same.nodes k ∙ swaps.others k differ
    | inl e ↦
        let node : Some again.body ≡ Some (record { form = swaps.body.form; parts = set swaps.body.parts place Null }) = sym again.was ∙ same.nodes key ∙ swaps.is in
        let form : again.body.form ≡ swaps.body.form = same_form again.body (record { form = swaps.body.form; parts = set swaps.body.parts place Null }) node in
        let inside_in : inside ≡ get_or swaps.body.parts place Null = level.inside_is ∙ ap (λ (o : Option Body). part_of o place) swaps.was in
        let parts : set again.body.parts place inside ≡ swaps.body.parts =
        ap (λ (ps : List Part). set ps place inside) (ap parts_in node) ∙ set-set swaps.body.parts place Null inside
        ∙ ap (λ (q : Part). set swaps.body.parts place q) inside_in ∙ set-get_or swaps.body.parts place Null in
        ap (at (map_of s3)) e ∙ again.is
        ∙ ap (λ (f : Form). Some (record { form = f; parts = set again.body.parts place inside })) form
        ∙ ap (λ (ps : List Part). Some (record { form = swaps.body.form; parts = ps })) parts
        ∙ sym swaps.was ∙ ap (at (map_of s0)) (sym e)
  ];
  counts = λ k. again.counts k ∙ same.counts k ∙ swaps.counts k;
}

-- the slot is still there where it was refused
pub refused_slot : (s1 s2 : Heap) (key place : ℕ) (form : Form) (ds : Data) (d : Datum) (spent others : List Part) → Hole s1 key place form ds d spent others → SameNodes s1 s2 → IsNodeSlot (map_of s2) key place
refused_slot s1 s2 key place form ds d spent others hole same =
    let slot = node_slot (map_of s1) key place d form ds hole.split hole.value hole.within in
    record { body = slot.body; was = same.nodes key ∙ slot.was; within = slot.within }

-- ---- where each node on the path has one holder

pub part_free : (key : ℕ) (o : Option Body) (i : ℕ) → slot_holds key o ≡ 0 → holds key (part_of o i) ≡ 0
part_free key None i none = refl
part_free key (Some b) i none = omega (arith, none, holds-get_or key b.parts i)

module _ (s t : Heap) (key place : ℕ) (part : Part) (swaps : Swaps s t key place part) (none : inner key (map_of s) ≡ 0) where
  part_kept : (p : Part) (step : Step) → holds key p ≡ 0 → (part_at (map_of t) p step ≡ part_at (map_of s) p step) × (holds key (part_at (map_of s) p step) ≡ 0)
  part_kept Null step free = (refl, refl)
  part_kept (Bool b) step free = (refl, refl)
  part_kept (Int z) step free = (refl, refl)
  part_kept (Key k) step free = (
    ap (λ (o : Option Body). part_of o (place_in (form_in o) step)) (swaps.others k (λ e. omega (arith, free, ap (λ (j : ℕ). holds key (Key j)) e, holds_one key))),
    part_free key (at (map_of s) k) (place_in (form_in (at (map_of s) k)) step) (omega (arith, slot-le-inner key (map_of s) k, none)),
  )

  sole_kept : (path : List Step) (p : Part) → holds key p ≡ 0 → Sole s p path → Sole t p path
  sole_kept [] p free sole = tt
  sole_kept (step ∷ path) p free sole =
      let here = part_kept p step free in (
        λ k e. swaps.counts k ∙ sole.0 k e,
        subst (λ (q : Part). Sole t q path) (sym here.0) (sole_kept path (part_at (map_of s) p step) here.1 sole.1),
      )

pub sole_inside : (s0 : Heap) (whole : Part) (key place : ℕ) (step : Step) (rest : List Step) (inside : Part) (level : Level s0 whole key place step rest inside) (s1 : Heap) → Swaps s0 s1 key place Null → count_at s0 key ≡ 1 → (others : List Part) → Counts s0 (whole ∷ others) → Sole s0 whole (step ∷ rest) → Sole s1 inside rest
sole_inside s0 whole key place step rest inside level s1 swaps one others counts sole =
    let none : inner key (map_of s0) ≡ 0 = omega (arith, counts.counted key, one, ap (holds key) level.is_key, holds_one key) in
    let lies : place ≡ place_in (form_in (at (map_of s0) key)) step = level.place_is ∙ sym (ap (λ (o : Option Body). place_in (form_in o) step) level.was) in
    let inside_at : inside ≡ part_at (map_of s0) whole step =
    level.inside_is ∙ ap (part_of (at (map_of s0) key)) lies ∙ sym (ap (λ (q : Part). part_at (map_of s0) q step) level.is_key) in
    let free : holds key inside ≡ 0 = ap (holds key) level.inside_is ∙ part_free key (at (map_of s0) key) place (omega (arith, slot-le-inner key (map_of s0) key, none)) in
    sole_kept s0 s1 key place Null swaps none rest inside free (subst (λ (q : Part). Sole s0 q rest) (sym inside_at) sole.1)
