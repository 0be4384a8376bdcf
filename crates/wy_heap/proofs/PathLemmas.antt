-- A write at a path by copies, a level at a time.
use Rattle.std.proofs.Common.{◌≡◌, ◌≢◌, inl, inr, ℕ, zero, suc, ◌+◌, ◌-◌, ◌≤◌, ◌<◌, List, [], ◌∷◌, ◌++◌, set, get_or, take, drop, length, Option, Some, IsSome, refl, sym, ◌∙◌, ap, subst, arith}
use Rattle.std.proofs.lemmas.List.{take_all}
use Rattle.wy_value.specs.declared.shapes.Shapes.{Shapes}
use Rattle.wy_value.specs.Datum.{Datum, Data, no_items, item}
use Rattle.wy_value.specs.Datum as datum
use Rattle.wy_value.specs.Values.{length_of}
use Rattle.wy_heap.specs.declared.part.Part.{Part}
use Rattle.wy_heap.specs.declared.part.Part.TheVariants.{Null, Key}
use Rattle.wy_heap.specs.declared.part.Slot.{Slot}
use Rattle.wy_heap.specs.declared.part.Slot.TheVariants.{Item}
use Rattle.wy_heap.specs.declared.heap.Heap.{Heap}
use Rattle.wy_heap.specs.Nodes.{Form, Body, Map, map_of, at, holds, held, slot_holds, inner, count_at, parts_in, form_in}
use Rattle.wy_heap.specs.Meaning.{Means, MeanAll, IsNode, IsSplit}
use Rattle.wy_heap.specs.Standing.{Counts, Among, Keeps}
use Rattle.wy_heap.specs.Slots.{Step, step_of, steps_of, HasStep, HasPath, IsPath, child, put_step, put, nth, put_nth, place_in, part_of}
use Rattle.wy_heap.specs.Changing.{SameNodes, Leads, Builds, Swaps, IsNodeSlot, NoNew, Wrote, Lasts, Upheld}
use Rattle.wy_heap.proofs.CountLemmas.{held-set, holds_one, holds_other, slot-le-inner}
use Rattle.wy_heap.proofs.ChangeLemmas.{count_there}
use Rattle.wy_heap.proofs.MeaningLemmas.{mean_all-length, mean_all-nth, means_unique, node_at, node_from_means, means_from_node, same_form}
use Rattle.wy_heap.proofs.LeadLemmas.{reordered, among_first, counts_same}
use Rattle.wy_heap.proofs.WriteLemmas.{mean_all-set, put_at, split-put_at, swap_counts, swap_among, swap_node, swap_inner}
use Rattle.wy_heap.proofs.SlotLemmas.{held_node, place_within, child-nth, put_step-put_at}
use Rattle.wy_heap.proofs.ReachLemmas.{restored}

-- ---- lists of data

nth-put_nth : (ds : Data) (i : ℕ) (u : Datum) → i < length_of ds → nth (put_nth ds i u) i ≡ u
nth-put_nth no_items i u below = absurd (omega arith)
nth-put_nth (item d ds) zero u below = refl
nth-put_nth (item d ds) (suc i) u below = nth-put_nth ds i u (omega arith)

pub put_nth-put_nth : (ds : Data) (i : ℕ) (x u : Datum) → put_nth (put_nth ds i x) i u ≡ put_nth ds i u
put_nth-put_nth no_items i x u = refl
put_nth-put_nth (item d ds) zero x u = refl
put_nth-put_nth (item d ds) (suc i) x u = ap (λ (es : Data). item d es) (put_nth-put_nth ds i x u)

length_of-put_nth : (ds : Data) (i : ℕ) (u : Datum) → length_of (put_nth ds i u) ≡ length_of ds
length_of-put_nth no_items i u = refl
length_of-put_nth (item d ds) zero u = refl
length_of-put_nth (item d ds) (suc i) u = omega (arith, length_of-put_nth ds i u)

-- a path's first step, and the rest
pub path_split : (t : Shapes) (path : List Slot) → 1 ≤ length path → steps_of t path ≡ step_of t (get_or path 0 (Item 0)) ∷ steps_of t (take (length path - 1) (drop 1 path))
path_split t [] some = absurd (omega arith)
path_split t (x ∷ xs) some = ap (λ (ys : List Slot). step_of t x ∷ steps_of t ys) (sym (take_all (length (x ∷ xs) - 1) xs (omega arith)))

pub path_nil : (t : Shapes) (path : List Slot) → length path < 1 → steps_of t path ≡ []
path_nil t [] none = refl
path_nil t (x ∷ xs) none = absurd (omega arith)

among_more : (p : Part) (others : List Part) (q : Part) → Among others q → Among (p ∷ others) q
among_more p others q among k e = omega (arith, among k e)

-- ---- a node that one place alone holds, with null in a slot

pub record Hole (h : Heap) (key place : ℕ) (form : Form) (ds : Data) (whole : Datum) (spent others : List Part) : Type 0 where
  pub counts : Counts h (spent ++ (Key key ∷ others))
  pub free : held key spent + held key others + inner key (map_of h) ≡ 0
  pub split : IsSplit whole form ds
  pub value : Means (map_of h) whole (Key key)
  pub empty : nth ds place ≡ datum.Null
  pub within : place < length_of ds

-- the node of a datum with this form and these data
record Node_of (m : Map) (key : ℕ) (form : Form) (ds : Data) : Type 0 where
  pub parts : List Part
  pub is : at m key ≡ Some (record { form = form; parts = parts })
  pub mean : MeanAll m ds parts

node_of : (m : Map) (key : ℕ) (d : Datum) (form : Form) (ds : Data) → IsSplit d form ds → Means m d (Key key) → Node_of m key form ds
node_of m key d form ds split means =
    let node = node_at m (Key key) key form ds refl (node_from_means m d (Key key) form ds split means) in
    record { parts = node.parts; is = node.is; mean = node.mean }

pub node_slot : (m : Map) (key place : ℕ) (d : Datum) (form : Form) (ds : Data) → IsSplit d form ds → Means m d (Key key) → place < length_of ds → IsNodeSlot m key place
node_slot m key place d form ds split means below =
    let node = node_of m key d form ds split means in
    record { body = record { form = form; parts = node.parts }; was = node.is; within = omega (arith, mean_all-length m ds node.parts node.mean, below) }

-- what a body has, by the datum
pub body_of_datum : (m : Map) (key : ℕ) (b : Body) (d : Datum) (form : Form) (ds : Data) → IsSplit d form ds → Means m d (Key key) → at m key ≡ Some b → (b.form ≡ form) × MeanAll m ds b.parts
body_of_datum m key b d form ds split means is =
    let node = node_of m key d form ds split means in
    let same : Some b ≡ Some (record { form = form; parts = node.parts }) = sym is ∙ node.is in
    (same_form b (record { form = form; parts = node.parts }) same, subst (MeanAll m ds) (sym (ap parts_in same)) node.mean)

pub null_out : (m : Map) (b : Body) (ds : Data) (place : ℕ) (out : Part) → MeanAll m ds b.parts → nth ds place ≡ datum.Null → place < length b.parts → out ≡ get_or b.parts place Null → out ≡ Null
null_out m b ds place out mean empty within is =
    is ∙ subst (λ (d : Datum). Means m d (get_or b.parts place Null)) empty (mean_all-nth m ds b.parts place mean within)

-- ---- from the hole to the end of the level

module _ (s1 s2 : Heap) (key place : ℕ) (form : Form) (ds : Data) (whole : Datum) (spent others : List Part) (hole : Hole s1 key place form ds whole spent others) (inside : Part) (rest : List Step) (part below : Part) (wrote : Wrote s1 s2 spent inside rest part below) where
  level_leads : Leads s1 s2 (below ∷ []) (Key key ∷ others)
  level_leads = wrote.leads (Key key ∷ others) hole.counts

  level_free : holds key below + inner key (map_of s2) ≡ 0
  level_free =
      let node = node_of (map_of s1) key whole form ds hole.split hole.value in
      omega (arith, wrote.fresh key _ node.is (omega (arith, hole.free)))

  level_sole : count_at s2 key ≡ 1
  level_sole = omega (arith, level_leads.counts.counted key, level_free, hole.free, holds_one key)

  level_counts : Counts s2 (Key key ∷ below ∷ others)
  level_counts = reordered (count_at s2) (map_of s2) (below ∷ Key key ∷ others) (Key key ∷ below ∷ others) (λ k. omega arith) level_leads.counts

  level_value : Means (map_of s2) whole (Key key)
  level_value = level_leads.keeps (Key key) whole (among_first (Key key) others) hole.value

  pub level_slot : IsNodeSlot (map_of s2) key place
  level_slot = node_slot (map_of s2) key place whole form ds hole.split level_value hole.within

  pub level_there : IsSome (at (map_of s2) key)
  level_there = count_there s2 key (omega (arith, level_sole))

  module _ (s3 : Heap) (out : Part) (swaps : Swaps s2 s3 key place below) (is_out : out ≡ part_of (at (map_of s2) key) place) where
    level_body : (swaps.body.form ≡ form) × MeanAll (map_of s2) ds swaps.body.parts
    level_body = body_of_datum (map_of s2) key swaps.body whole form ds hole.split level_value swaps.was

    out_null : out ≡ Null
    out_null = null_out (map_of s2) swaps.body ds place out level_body.1 hole.empty swaps.within (is_out ∙ ap (λ (o : Option Body). part_of o place) swaps.was)

    pub done_counts : Counts s3 (Key key ∷ others)
    done_counts = reordered (count_at s3) (map_of s3) (Key key ∷ out ∷ others) (Key key ∷ others) (λ k. omega (arith, ap (holds k) out_null))
        (swap_counts s2 s3 key place below out swaps is_out others level_counts level_sole)

    pub done_keeps : Keeps (map_of s1) (map_of s3) others
    done_keeps q d among means =
        swap_among s2 s3 key place below out swaps is_out others level_counts level_sole q d (λ k e. omega (arith, among k e))
        (level_leads.keeps q d (among_more (Key key) others q among) means)

    pub done_value : (x : Datum) → Means (map_of s2) x below → Means (map_of s3) (put_at whole place x) (Key key)
    done_value x means =
        means_from_node (map_of s3) (put_at whole place x) (Key key) swaps.body.form (put_nth ds place x)
        (subst (λ (f : Form). IsSplit (put_at whole place x) f (put_nth ds place x)) (sym level_body.0) (split-put_at whole form ds place x hole.split))
        (swap_node s2 s3 key place below out swaps is_out others level_counts level_sole ds x level_body.1 means)

    pub done_inner : (k : ℕ) → holds k below + inner k (map_of s2) ≡ 0 → inner k (map_of s3) ≡ 0
    done_inner k none = omega (arith, none, swap_inner s2 s3 key place below out swaps is_out others level_counts level_sole k)

-- ---- what is known at a level

pub record Level (h : Heap) (whole : Part) (key place : ℕ) (step : Step) (rest : List Step) (inside : Part) : Type 0 where
  pub is_key : whole ≡ Key key
  pub value : Datum
  pub means : Means (map_of h) value whole
  pub body : Body
  pub was : at (map_of h) key ≡ Some body
  pub data_of : Data
  pub split : IsSplit value body.form data_of
  pub mean : MeanAll (map_of h) data_of body.parts
  pub place_is : place ≡ place_in body.form step
  pub within : place < length body.parts
  pub has : HasStep value step
  pub path : HasPath (child value step) rest
  pub inside_is : inside ≡ part_of (at (map_of h) key) place

pub level_of : (h : Heap) (whole : Part) (key place : ℕ) (step : Step) (rest : List Step) (inside : Part) → whole ≡ Key key → (w : Datum) → Means (map_of h) w whole → HasPath w (step ∷ rest) → place ≡ place_in (form_in (at (map_of h) key)) step → inside ≡ part_of (at (map_of h) key) place → Level h whole key place step rest inside
level_of h whole key place step rest inside is w means has place_is inside_is =
    let node = held_node h whole key w is means in
    let lies : place ≡ place_in node.form step = place_is ∙ ap (λ (o : Option Body). place_in (form_in o) step) node.is in
    record {
      is_key = is;
      value = w;
      means = means;
      body = record { form = node.form; parts = node.parts };
      was = node.is;
      data_of = node.data_of;
      split = node.split;
      mean = node.mean;
      place_is = lies;
      within = omega (arith, lies, place_within w node.form node.data_of step node.split has.0, mean_all-length (map_of h) node.data_of node.parts node.mean);
      has = has.0;
      path = has.1;
      inside_is = inside_is;
    }

-- the level at the first step of a path
abbrev pub first_of : Heap → List Slot → Step
first_of h path = step_of h.shapes (get_or path 0 (Item 0))

abbrev pub rest_of : Heap → List Slot → List Step
rest_of h path = steps_of h.shapes (take (length path - 1) (drop 1 path))

pub level_at : (h : Heap) (whole : Part) (key place : ℕ) (path : List Slot) (inside : Part) → whole ≡ Key key → IsPath h whole path → 1 ≤ length path → place ≡ place_in (form_in (at (map_of h) key)) (first_of h path) → inside ≡ part_of (at (map_of h) key) place → Level h whole key place (first_of h path) (rest_of h path) inside
level_at h whole key place path inside is there some lies inside_is =
    level_of h whole key place (first_of h path) (rest_of h path) inside is there.0 there.1 (subst (HasPath there.0) (path_split h.shapes path some) there.2) lies inside_is

module _ (s0 : Heap) (whole : Part) (key place : ℕ) (step : Step) (rest : List Step) (inside : Part) (level : Level s0 whole key place step rest inside) where
  pub level_node : IsNodeSlot (map_of s0) key place
  level_node = record { body = level.body; was = level.was; within = level.within }

  below_length : place < length_of level.data_of
  below_length = omega (arith, level.within, mean_all-length (map_of s0) level.data_of level.body.parts level.mean)

  nth_is : child level.value step ≡ nth level.data_of place
  nth_is = child-nth level.value level.body.form level.data_of step level.split level.has ∙ ap (nth level.data_of) (sym level.place_is)

  -- what is in the slot stands for what the step leads to
  pub level_inside : Means (map_of s0) (child level.value step) inside
  level_inside =
      subst (λ (d : Datum). Means (map_of s0) d inside) (sym nth_is)
      (subst (Means (map_of s0) (nth level.data_of place)) (sym (level.inside_is ∙ ap (λ (o : Option Body). part_of o place) level.was))
      (mean_all-nth (map_of s0) level.data_of level.body.parts place level.mean level.within))

  -- the whole with another datum where the step leads
  pub level_put : (x : Datum) → put_step level.value step x ≡ put_at level.value place x
  level_put x = put_step-put_at level.value level.body.form level.data_of step x level.split level.has ∙ ap (λ (i : ℕ). put_at level.value i x) (sym level.place_is)

  pub level_split : IsSplit (put_at level.value place datum.Null) level.body.form (put_nth level.data_of place datum.Null)
  level_split = split-put_at level.value level.body.form level.data_of place datum.Null level.split

  pub level_empty : nth (put_nth level.data_of place datum.Null) place ≡ datum.Null
  level_empty = nth-put_nth level.data_of place datum.Null below_length

  pub level_within : place < length_of (put_nth level.data_of place datum.Null)
  level_within = omega (arith, below_length, length_of-put_nth level.data_of place datum.Null)

  pub level_mean : MeanAll (map_of s0) (put_nth level.data_of place datum.Null) (set level.body.parts place Null)
  level_mean = mean_all-set (map_of s0) level.data_of level.body.parts place datum.Null Null level.mean refl

  -- a datum once in the slot is the whole with it
  pub level_again : (m : Map) (x : Datum) → Means m (put_at (put_at level.value place datum.Null) place x) (Key key) → Means m (put_step level.value step x) (Key key)
  level_again m x means =
      let twice = split-put_at (put_at level.value place datum.Null) level.body.form (put_nth level.data_of place datum.Null) place x level_split in
      let once = split-put_at level.value level.body.form level.data_of place x level.split in
      let node = node_from_means m (put_at (put_at level.value place datum.Null) place x) (Key key) level.body.form (put_nth (put_nth level.data_of place datum.Null) place x) twice means in
      subst (λ (d : Datum). Means m d (Key key)) (sym (level_put x))
      (means_from_node m (put_at level.value place x) (Key key) level.body.form (put_nth level.data_of place x) once
      (subst (λ (es : Data). IsNode m (Key key) level.body.form es) (put_nth-put_nth level.data_of place datum.Null x) node))

-- the copy that was made at this level
pub level_builds : (s0 : Heap) (whole : Part) (key place : ℕ) (step : Step) (rest : List Step) (inside : Part) (level : Level s0 whole key place step rest inside) (s1 : Heap) (top : ℕ) → Builds s0 s1 (form_in (at (map_of s0) key)) (set (parts_in (at (map_of s0) key)) place Null) top → Builds s0 s1 level.body.form (set level.body.parts place Null) top
level_builds s0 whole key place step rest inside level s1 top builds =
    subst (λ (o : Option Body). Builds s0 s1 (form_in o) (set (parts_in o) place Null) top) level.was builds

-- ---- a copy, then the rest of the path

module _ (s0 : Heap) (whole : Part) (key place : ℕ) (step : Step) (rest : List Step) (inside : Part) (level : Level s0 whole key place step rest inside) (s1 : Heap) (top : ℕ) (builds : Builds s0 s1 level.body.form (set level.body.parts place Null) top) (part : Part) (others : List Part) (counts : Counts s0 (part ∷ others)) where
  copy_counts : Counts s1 (Key top ∷ part ∷ others)
  copy_counts = builds.counts (part ∷ others) counts

  copy_value : Means (map_of s1) (put_at level.value place datum.Null) (Key top)
  copy_value = means_from_node (map_of s1) (put_at level.value place datum.Null) (Key top) level.body.form (put_nth level.data_of place datum.Null)
      (level_split s0 whole key place step rest inside level)
      (builds.node (put_nth level.data_of place datum.Null) (level_mean s0 whole key place step rest inside level))

  pub copy_hole : Hole s1 top place level.body.form (put_nth level.data_of place datum.Null) (put_at level.value place datum.Null) (part ∷ []) others
  copy_hole = record {
    counts = reordered (count_at s1) (map_of s1) (Key top ∷ part ∷ others) (part ∷ Key top ∷ others) (λ k. omega arith) copy_counts;
    free = omega (arith, copy_counts.counted top, builds.count, holds_one top);
    split = level_split s0 whole key place step rest inside level;
    value = copy_value;
    empty = level_empty s0 whole key place step rest inside level;
    within = level_within s0 whole key place step rest inside level;
  }

  -- a key that was there is not the new one
  copy_old : (k : ℕ) (b : Body) → at (map_of s0) k ≡ Some b → k ≢ top
  copy_old k b was same = let none = builds.vacant in let e : at (map_of s0) top ≡ Some b = ap (at (map_of s0)) (sym same) ∙ was in cc

  copy_none : (k : ℕ) (b : Body) → at (map_of s0) k ≡ Some b → inner k (map_of s0) ≡ 0 → inner k (map_of s1) ≡ 0
  copy_none k b was none = builds.fresh k b was
      (omega (arith, none, held-set k level.body.parts place Null level.within, slot-le-inner k (map_of s0) key, ap (slot_holds k) level.was))

  pub copied_inside : Means (map_of s1) (child level.value step) inside
  copied_inside = builds.keeps inside (child level.value step) (level_inside s0 whole key place step rest inside level)

  module _ (s2 s3 : Heap) (below out : Part) (wrote : Wrote s1 s2 (part ∷ []) inside rest part below) (swaps : Swaps s2 s3 top place below) (is_out : out ≡ part_of (at (map_of s2) top) place) where
    copied_leads : Leads s0 s3 (Key top ∷ []) others
    copied_leads = record {
      counts = done_counts s1 s2 top place level.body.form (put_nth level.data_of place datum.Null) (put_at level.value place datum.Null) (part ∷ []) others copy_hole inside rest part below wrote s3 out swaps is_out;
      keeps = λ q d among means. done_keeps s1 s2 top place level.body.form (put_nth level.data_of place datum.Null) (put_at level.value place datum.Null) (part ∷ []) others copy_hole inside rest part below wrote s3 out swaps is_out q d among (builds.keeps q d means);
    }

    copied_fresh : NoNew (map_of s0) (map_of s3) (part ∷ []) (Key top ∷ [])
    copied_fresh k b was none =
        let first = copy_none k b was (omega (arith, none)) in
        let second = wrote.fresh k b (builds.stays k b was) (omega (arith, first, none)) in
        let inner3 = done_inner s1 s2 top place level.body.form (put_nth level.data_of place datum.Null) (put_at level.value place datum.Null) (part ∷ []) others copy_hole inside rest part below wrote s3 out swaps is_out k (omega (arith, second)) in
        omega (arith, inner3, holds_other top k (λ e. copy_old k b was (sym e)))

    copied_value : (w u : Datum) → Means (map_of s0) w whole → Means (map_of s0) u part → Means (map_of s3) (put w (step ∷ rest) u) (Key top)
    copied_value w u means_w means_u =
        let x = put (child level.value step) rest u in
        let done = done_value s1 s2 top place level.body.form (put_nth level.data_of place datum.Null) (put_at level.value place datum.Null) (part ∷ []) others copy_hole inside rest part below wrote s3 out swaps is_out
        x (wrote.value (child level.value step) u copied_inside (builds.keeps part u means_u)) in
        let twice = split-put_at (put_at level.value place datum.Null) level.body.form (put_nth level.data_of place datum.Null) place x (level_split s0 whole key place step rest inside level) in
        let once = split-put_at level.value level.body.form level.data_of place x level.split in
        let node = node_from_means (map_of s3) (put_at (put_at level.value place datum.Null) place x) (Key top) level.body.form (put_nth (put_nth level.data_of place datum.Null) place x) twice done in
        let all = means_from_node (map_of s3) (put_at level.value place x) (Key top) level.body.form (put_nth level.data_of place x) once
        (subst (λ (es : Data). IsNode (map_of s3) (Key top) level.body.form es) (put_nth-put_nth level.data_of place datum.Null x) node) in
        subst (λ (v : Datum). Means (map_of s3) (put v (step ∷ rest) u) (Key top)) (means_unique (map_of s0) level.value w whole level.means means_w)
        (subst (λ (v : Datum). Means (map_of s3) v (Key top)) (sym (level_put s0 whole key place step rest inside level x)) all)

-- the whole level
pub copied_wrote : (s0 : Heap) (whole : Part) (key place : ℕ) (step : Step) (rest : List Step) (inside : Part) (level : Level s0 whole key place step rest inside) (s1 : Heap) (top : ℕ) (builds : Builds s0 s1 level.body.form (set level.body.parts place Null) top) (part : Part) (held_with : (others : List Part) × Counts s0 (part ∷ others)) (s2 s3 : Heap) (below out : Part) → Wrote s1 s2 (part ∷ []) inside rest part below → Swaps s2 s3 top place below → out ≡ part_of (at (map_of s2) top) place → Wrote s0 s3 (part ∷ []) whole (step ∷ rest) part (Key top)
copied_wrote s0 whole key place step rest inside level s1 top builds part held_with s2 s3 below out wrote swaps is_out = record {
  leads = λ others counts. copied_leads s0 whole key place step rest inside level s1 top builds part others counts s2 s3 below out wrote swaps is_out;
  value = copied_value s0 whole key place step rest inside level s1 top builds part held_with.0 held_with.1 s2 s3 below out wrote swaps is_out;
  fresh = copied_fresh s0 whole key place step rest inside level s1 top builds part held_with.0 held_with.1 s2 s3 below out wrote swaps is_out;
}

-- refused further down: the copy is let go of
pub copied_refused : (s0 s1 s2 s3 : Heap) (form : Form) (parts : List Part) (top : ℕ) (places : List Part) → Builds s0 s1 form parts top → Counts s0 places → SameNodes s1 s2 → ((others : List Part) → Counts s2 (Key top ∷ others) → Leads s2 s3 [] others) → Upheld s2 (map_of s3) (Key top) → SameNodes s0 s3
copied_refused s0 s1 s2 s3 form parts top places builds counts same frees upheld =
    let still = counts_same s1 s2 (Key top ∷ places) same (builds.counts places counts) in
    restored s0 s3 places counts (frees places still).counts
    (upheld (map_of s0) places still
    (λ k b was. omega (arith, counts.counted k, counts.alive k (subst IsSome (sym was) refl)))
    (λ k b was. same.nodes k ∙ builds.stays k b was))

pub inner_lasts : (k : ℕ) (m n : Map) → Lasts m n → inner k n ≤ inner k m
inner_lasts k m [] lasts = omega arith
inner_lasts k [] (c ∷ cs) lasts =
    let rest = inner_lasts k [] cs (λ j. lasts (suc j)) in
    elim (lasts 0) [ inl gone ↦ omega (arith, rest, ap (slot_holds k) gone) | inr same ↦ omega (arith, rest, ap (slot_holds k) same) ]
inner_lasts k (d ∷ ds) (c ∷ cs) lasts =
    let rest = inner_lasts k ds cs (λ j. lasts (suc j)) in
    elim (lasts 0) [ inl gone ↦ omega (arith, rest, ap (slot_holds k) gone) | inr same ↦ omega (arith, rest, ap (slot_holds k) same) ]

-- ---- the whole is let go of

pub copy_wrote : (s0 s1 s2 : Heap) (whole : Part) (path : List Step) (part made : Part) → (beside : (others : List Part) × Counts s0 (whole ∷ part ∷ others)) → Wrote s0 s1 (part ∷ []) whole path part made → ((others : List Part) → Counts s1 (whole ∷ others) → Leads s1 s2 [] others) → Lasts (map_of s1) (map_of s2) → Wrote s0 s2 (whole ∷ part ∷ []) whole path part made
copy_wrote s0 s1 s2 whole path part made beside wrote frees lasts =
    let one : (others : List Part) → Counts s0 (whole ∷ part ∷ others) → Leads s0 s1 (made ∷ []) (whole ∷ others) =
    λ others counts. wrote.leads (whole ∷ others) (reordered (count_at s0) (map_of s0) (whole ∷ part ∷ others) (part ∷ whole ∷ others) (λ k. omega arith) counts) in
    let two : (others : List Part) → Counts s0 (whole ∷ part ∷ others) → Leads s1 s2 [] (made ∷ others) =
    λ others counts. frees (made ∷ others) (reordered (count_at s1) (map_of s1) (made ∷ whole ∷ others) (whole ∷ made ∷ others) (λ k. omega arith) (one others counts).counts) in
    record {
      leads = λ others counts. record {
        counts = (two others counts).counts;
        keeps = λ q d among means. (two others counts).keeps q d (λ k e. omega (arith, among k e)) ((one others counts).keeps q d (λ k e. omega (arith, among k e)) means);
      };
      value = λ w u means_w means_u. (two beside.0 beside.1).keeps made (put w path u) (among_first made beside.0) (wrote.value w u means_w means_u);
      fresh = λ k b was none. omega (arith, wrote.fresh k b was (omega (arith, none)), inner_lasts k (map_of s1) (map_of s2) lasts);
    }

pub copy_free : (s0 s1 : Heap) (whole : Part) (path : List Step) (part made : Part) → Wrote s0 s1 (part ∷ []) whole path part made → (others : List Part) → Counts s0 (whole ∷ part ∷ others) → Counts s1 (whole ∷ made ∷ others)
copy_free s0 s1 whole path part made wrote others counts =
    let one = wrote.leads (whole ∷ others) (reordered (count_at s0) (map_of s0) (whole ∷ part ∷ others) (part ∷ whole ∷ others) (λ k. omega arith) counts) in
    reordered (count_at s1) (map_of s1) (made ∷ whole ∷ others) (whole ∷ made ∷ others) (λ k. omega arith) one.counts

pub end_wrote : (s0 s1 : Heap) (whole part : Part) → (beside : (others : List Part) × Counts s0 (whole ∷ part ∷ others)) → ((others : List Part) → Counts s0 (whole ∷ others) → Leads s0 s1 [] others) → Lasts (map_of s0) (map_of s1) → Wrote s0 s1 (whole ∷ part ∷ []) whole [] part part
end_wrote s0 s1 whole part beside frees lasts = record {
  leads = λ others counts.
      let leads = frees (part ∷ others) counts in
      record { counts = leads.counts; keeps = λ q d among means. leads.keeps q d (λ k e. omega (arith, among k e)) means };
  value = λ w u means_w means_u. (frees (part ∷ beside.0) beside.1).keeps part u (among_first part beside.0) means_u;
  fresh = λ k b was none. omega (arith, none, inner_lasts k (map_of s0) (map_of s1) lasts);
}
