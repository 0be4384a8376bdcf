-- What new arrays, records and copies stand for.
use Rattle.std.proofs.Common.{◌≡◌, inl, inr, ℕ, zero, suc, ◌≤◌, List, [], ◌∷◌, ◌++◌, set, length, replicate, Some, IsSome, refl, sym, ◌∙◌, ap, subst, arith, slice_get}
use Rattle.std.proofs.lemmas.Bool.{cases_eq}
use Rattle.slab.specs.Slab.{get}
use Rattle.wy_lemmas.proofs.Lists.{same_bytes as some_same}
use Rattle.wy_value.specs.declared.shapes.Shapes.{Shapes}
use Rattle.wy_value.specs.Shapes.{named}
use Rattle.wy_value.specs.Datum.{Datum, Data, no_items, item, Fields, no_fields, field}
use Rattle.wy_value.specs.Datum as datum
use Rattle.wy_value.specs.Values.{names_of, length_of}
use Rattle.wy_heap.specs.declared.part.Part.{Part}
use Rattle.wy_heap.specs.declared.part.Part.TheVariants.{Null, Key}
use Rattle.wy_heap.specs.declared.node.Shape.TheVariants as shape
use Rattle.wy_heap.specs.declared.node.Node.{Node}
use Rattle.wy_heap.specs.declared.heap.Heap.{Heap}
use Rattle.wy_heap.specs.Nodes.{Form, list_form, record_form, record_of, form_of, map_of, holds, held, count_at}
use Rattle.wy_heap.specs.Meaning.{data_in, Means, MeanAll, IsNode, IsSplit}
use Rattle.wy_heap.specs.Standing.{Counts, IsWithin, Stands, Acts, SameTable}
use Rattle.wy_heap.specs.Slots.{put_nth, joined}
use Rattle.wy_heap.specs.Making.{repeated, HasShape}
use Rattle.wy_heap.specs.Changing.{SameRest, Leads, AreThere, Fits, Builds}
use Rattle.wy_heap.proofs.CountLemmas.{held-append}
use Rattle.wy_heap.proofs.ChangeLemmas.{contains_from_at, count_there}
use Rattle.wy_heap.proofs.MeaningLemmas.{mean_all-length, means_from_node}
use Rattle.wy_heap.proofs.LeadLemmas.{reordered, parts_meant, held_meant, among_meant, among_first, acts_from, within_same}
use Rattle.wy_heap.proofs.SlotLemmas.{held_node, node_form, node_parts, body-node}
use Rattle.wy_heap.proofs.WriteLemmas.{mean_all-set, put_at, split-put_at}

-- ---- copies

-- a copy of a node with null in a slot stands for a datum
pub set_fits : (h : Heap) (places : List Part) (key place : ℕ) (n : Node) → Counts h places → get h.nodes key ≡ Some n → Fits (map_of h) (form_of h.shapes n.shape) (set n.parts.items place Null)
set_fits h places key place n counts was =
    let d = counts.meant key (subst IsSome (sym (body-node h key n was)) refl) in
    let node = held_node h (Key key) key d.0 refl d.1 in
    let mean = mean_all-set (map_of h) node.data_of node.parts place datum.Null Null node.mean refl in (
      put_nth node.data_of place datum.Null,
      subst (λ (ps : List Part). MeanAll (map_of h) (put_nth node.data_of place datum.Null) (set ps place Null)) (sym (node_parts h key n d.0 node was)) mean,
      put_at d.0 place datum.Null,
      subst (λ (f : Form). IsSplit (put_at d.0 place datum.Null) f (put_nth node.data_of place datum.Null)) (sym (node_form h key n d.0 node was))
          (split-put_at d.0 node.form node.data_of place datum.Null node.split),
    )

-- another number of copies changes nothing of a new node
pub recopied : (h n : Heap) (made : ℕ) (form : Form) (parts : List Part) (copies : ℕ) → Builds h n form parts made → Builds h (record n { copies = copies }) form parts made
recopied h n made form parts copies builds = record {
  vacant = builds.vacant;
  count = builds.count;
  counts = builds.counts;
  keeps = builds.keeps;
  node = builds.node;
  stays = builds.stays;
  more = builds.more;
  fresh = builds.fresh;
}

-- ---- arrays and records

pub array_fits : (h : Heap) (items others : List Part) → Counts h (items ++ others) → Fits (map_of h) list_form items
array_fits h items others counts =
    let all = parts_meant (map_of h) items (λ k some. held_meant h (items ++ others) counts k (omega (arith, held-append k items others, some))) in
    (all.0, all.1, datum.Array all.0, (refl, refl))

pub length-named : (names : List (List ℕ)) (list : List ℕ) → length (named names list) ≡ length list
length-named names [] = refl
length-named names (n ∷ ns) = omega (arith, length-named names ns)

names_of-joined : (names : List (List ℕ)) (ds : Data) → length names ≡ length_of ds → names_of (joined names ds) ≡ names
names_of-joined [] ds same = refl
names_of-joined (n ∷ ns) no_items same = absurd (omega (arith, same))
names_of-joined (n ∷ ns) (item d ds) same = ap (λ (l : List (List ℕ)). n ∷ l) (names_of-joined ns ds (omega (arith, same)))

data_in-joined : (names : List (List ℕ)) (ds : Data) → length names ≡ length_of ds → data_in (joined names ds) ≡ ds
data_in-joined [] no_items same = refl
data_in-joined [] (item d ds) same = absurd (omega (arith, same))
data_in-joined (n ∷ ns) no_items same = absurd (omega (arith, same))
data_in-joined (n ∷ ns) (item d ds) same = ap (λ (l : Data). item d l) (data_in-joined ns ds (omega (arith, same)))

-- a record of these names with so many data
record_split : (t : Shapes) (n : ℕ) (list : List ℕ) (ds : Data) → slice_get t.lists n ≡ Some list → length list ≡ length_of ds → IsSplit (datum.Record (joined (named t.names list) ds)) (form_of t (shape.Record n)) ds
record_split t n list ds found same =
    let many : length (named t.names list) ≡ length_of ds = omega (arith, length-named t.names list, same) in
    (ap (record_of t.names) found ∙ ap record_form (sym (names_of-joined (named t.names list) ds many)), sym (data_in-joined (named t.names list) ds many))

pub record_fits : (h : Heap) (items : List Part) (n : ℕ) (others : List Part) → Counts h (items ++ others) → HasShape h.shapes n (length items) → Fits (map_of h) (form_of h.shapes (shape.Record n)) items
record_fits h items n others counts has =
    let all = parts_meant (map_of h) items (λ k some. held_meant h (items ++ others) counts k (omega (arith, held-append k items others, some))) in (
      all.0,
      all.1,
      datum.Record (joined (named h.shapes.names has.0) all.0),
      record_split h.shapes n has.0 all.0 has.1 (has.2 ∙ mean_all-length (map_of h) all.0 items all.1),
    )

pub record_means : (h n : Heap) (made : Part) (items : List Part) (number : ℕ) (list : List ℕ) (ds : Data) → HasShape h.shapes number (length items) → slice_get h.shapes.lists number ≡ Some list → MeanAll (map_of h) ds items → IsNode (map_of n) made (form_of h.shapes (shape.Record number)) ds → Means (map_of n) (datum.Record (joined (named h.shapes.names list) ds)) made
record_means h n made items number list ds has found mean node =
    let same = some_same has.0 list (sym has.1 ∙ found) in
    let many : length list ≡ length_of ds = omega (arith, sym (ap length same), has.2, mean_all-length (map_of h) ds items mean) in
    means_from_node (map_of n) (datum.Record (joined (named h.shapes.names list) ds)) made (form_of h.shapes (shape.Record number)) ds (record_split h.shapes number list ds found many) node

pub len_is : (h : Heap) (p : Part) (key : ℕ) (n : Node) (items : Data) → p ≡ Key key → get h.nodes key ≡ Some n → Means (map_of h) (datum.Array items) p → length n.parts.items ≡ length_of items
len_is h p key n items is was means =
    let node = held_node h p key (datum.Array items) is means in
    omega (arith, ap length (node_parts h key n (datum.Array items) node was), mean_all-length (map_of h) node.data_of node.parts node.mean, ap length_of node.split.1)

-- ---- many holds on one part

held-replicate : (k n : ℕ) (p : Part) → 1 ≤ held k (replicate n p) → 1 ≤ holds k p
held-replicate k zero p some = absurd (omega arith)
held-replicate k (suc n) p some = elim (cases_eq (holds k p) 0) [
  | inl none ↦ held-replicate k n p (omega arith)
  | inr more ↦ omega (arith, more)
]

pub fill_there : (h : Heap) (n : ℕ) (p : Part) (others : List Part) → Counts h (p ∷ others) → AreThere h (replicate n p)
fill_there h n p others counts k some =
    contains_from_at h k (count_there h k (omega (arith, counts.counted k, held-replicate k n p some)))

mean_all-replicate : (m : _) (d : Datum) (p : Part) (n : ℕ) → Means m d p → MeanAll m (repeated n d) (replicate n p)
mean_all-replicate m d p zero means = refl
mean_all-replicate m d p (suc n) means = (means, mean_all-replicate m d p n means)

pub fill_fits : (h : Heap) (n : ℕ) (p : Part) (others : List Part) → Counts h (p ∷ others) → Fits (map_of h) list_form (replicate n p)
fill_fits h n p others counts =
    let d = among_meant h (p ∷ others) p counts (among_first p others) in
    (repeated n d.0, mean_all-replicate (map_of h) d.0 p n d.1, datum.Array (repeated n d.0), (refl, refl))

module _ (h n : Heap) (form : Form) (parts : List Part) (made : ℕ) (p : Part) (builds : Builds h n form parts made) (others : List Part) where
  pub fill_free : Counts h (p ∷ others) → Counts n (p ∷ Key made ∷ others)
  fill_free counts = reordered (count_at n) (map_of n) (Key made ∷ p ∷ others) (p ∷ Key made ∷ others) (λ k. omega arith) (builds.counts (p ∷ others) counts)

  pub fill_acts : Stands h (p ∷ others) → (o : Heap) → ((all : List Part) → Counts n (p ∷ all) → Leads n o [] all) → IsWithin n → ((k : ℕ) → count_at o k ≤ count_at n k) → SameTable h n → SameRest n o → Acts h o (Key made ∷ []) others
  fill_acts stands o frees within lower kept rest =
      let last = frees (Key made ∷ others) (fill_free stands.counts) in
      acts_from h o (Key made ∷ []) others (p ∷ others) stands
      (record {
        counts = last.counts;
        keeps = λ q d among means. last.keeps q d (λ k e. omega (arith, among k e)) (builds.keeps q d means);
      })
      (within_same n o lower rest.cap within) (rest.cap ∙ kept.0) (rest.shapes ∙ kept.1)

pub fill_means : (h n : Heap) (made : ℕ) (many : ℕ) (p : Part) (builds : Builds h n list_form (replicate many p) made) (others : List Part) → Counts h (p ∷ others) → (o : Heap) → ((all : List Part) → Counts n (p ∷ all) → Leads n o [] all) → (d : Datum) → Means (map_of h) d p → Means (map_of o) (datum.Array (repeated many d)) (Key made)
fill_means h n made many p builds others counts o frees d means =
    (frees (Key made ∷ others) (fill_free h n list_form (replicate many p) made p builds others counts)).keeps (Key made) (datum.Array (repeated many d)) (among_first (Key made) others)
    (builds.node (repeated many d) (mean_all-replicate (map_of h) d p many means))
