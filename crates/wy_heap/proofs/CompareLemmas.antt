-- What the pairs of a comparison tell.
use Rattle.std.proofs.Common.{◌≡◌, ◌≢◌, inl, inr, ℕ, zero, suc, ◌+◌, ◌*◌, ◌≤◌, ◌<◌, true, false, List, [], ◌∷◌, ◌++◌, get_or, drop, length, Option, Some, None, refl, sym, ◌∙◌, ap, subst, arith, append-nil, append_assoc, slice_get}
use Rattle.std.proofs.lemmas.Bool.{cases_eq}
use Rattle.std.proofs.lemmas.Option.{slice_get_within, get_or_from_slice_get}
use Rattle.std.specs.Prelude.{Bool as Boolean}
use Rattle.slab.specs.Slab.{get}
use Rattle.wy_value.specs.declared.shapes.Shapes.{Shapes}
use Rattle.wy_value.specs.Shapes.{named, AreApart, IsShapes}
use Rattle.wy_value.specs.Datum.{Datum, Data, no_items, item, Fields, no_fields, field}
use Rattle.wy_value.specs.Datum as datum
use Rattle.wy_value.specs.Values.{names_of, length_of}
use Rattle.wy_heap.specs.declared.part.Part.{Part}
use Rattle.wy_heap.specs.declared.part.Part.TheVariants.{Null, Key}
use Rattle.wy_heap.specs.declared.node.Shape.{Shape}
use Rattle.wy_heap.specs.declared.node.Shape.TheVariants as shape
use Rattle.wy_heap.specs.declared.node.Node.{Node}
use Rattle.wy_heap.specs.declared.heap.Heap.{Heap}
use Rattle.wy_heap.specs.Nodes.{Form, list_form, record_form, no_form, record_of, form_of, Body, Map, map_of, at, form_in, parts_in}
use Rattle.wy_heap.specs.Meaning.{data_in, Means, MeanAll, IsSplit, IsMeant}
use Rattle.wy_heap.specs.Slots.{nth, part_of}
use Rattle.wy_heap.specs.Weighing.{total, weight}
use Rattle.wy_heap.specs.Comparing.{Same, Pair, IsPair, SameFrom, ArePairs, AreSame, pair_work, pair_works, Leaves, Compares}
use Rattle.wy_heap.specs.Changing.{IsNodeSlot}
use Rattle.wy_heap.proofs.MeaningLemmas.{means_unique, mean_all-length, mean_all-nth}
use Rattle.wy_heap.proofs.SlotLemmas.{Held_node, held_node, node_form, node_parts, body-node, split_known, apart_same, record_known}
use Rattle.wy_heap.proofs.WeighLemmas.{tree_some, tree-split, weight-tree, total-trees}

-- ---- lists of pairs

pub pair_works-append : (m : Map) (xs ys : List Pair) → pair_works m (xs ++ ys) ≡ pair_works m xs + pair_works m ys
pair_works-append m [] ys = omega arith
pair_works-append m (x ∷ xs) ys = omega (arith, pair_works-append m xs ys)

pub same_front : (m : Map) (xs ys : List Pair) → AreSame m (xs ++ ys) → AreSame m xs
same_front m [] ys same = tt
same_front m (x ∷ xs) ys same = (same.0, same_front m xs ys same.1)

pub same_end : (m : Map) (xs ys : List Pair) → AreSame m (xs ++ ys) → AreSame m ys
same_end m [] ys same = same
same_end m (x ∷ xs) ys same = same_end m xs ys same.1

pub same_both : (m : Map) (xs ys : List Pair) → AreSame m xs → AreSame m ys → AreSame m (xs ++ ys)
same_both m [] ys first second = second
same_both m (x ∷ xs) ys first second = (first.0, same_both m xs ys first.1 second)

pub pairs_front : (m : Map) (xs ys : List Pair) → ArePairs m (xs ++ ys) → ArePairs m xs
pairs_front m [] ys all = tt
pairs_front m (x ∷ xs) ys all = (all.0, pairs_front m xs ys all.1)

pub pairs_end : (m : Map) (xs ys : List Pair) → ArePairs m (xs ++ ys) → ArePairs m ys
pairs_end m [] ys all = all
pairs_end m (x ∷ xs) ys all = pairs_end m xs ys all.1

pub pairs_both : (m : Map) (xs ys : List Pair) → ArePairs m xs → ArePairs m ys → ArePairs m (xs ++ ys)
pairs_both m [] ys first second = second
pairs_both m (x ∷ xs) ys first second = (first.0, pairs_both m xs ys first.1 second)

-- ---- parts

pub same_from : (m : Map) (d e : Datum) (a b : Part) → Means m d a → Means m e b → d ≡ e → Same m a b
same_from m d e a b first second same x y left right =
    means_unique m x d a left first ∙ same ∙ means_unique m e y b second right

same_part : (m : Map) (a b : Part) → a ≡ b → Same m a b
same_part m a b same d e first second = means_unique m d e b (subst (Means m d) same first) second

-- a scalar stands for a datum of its own
scalar_left : (m : Map) (a b : Part) → a ≢ b → ((k : ℕ) → a ≡ Key k → ⊥) → (d : Datum) → Means m d a → Means m d b → ⊥
scalar_left m a b differ scalar datum.Null first second = differ (first ∙ sym second)
scalar_left m a b differ scalar (datum.Truth x) first second = differ (first ∙ sym second)
scalar_left m a b differ scalar (datum.Whole z) first second = differ (first ∙ sym second)
scalar_left m a b differ scalar (datum.Array items) first second = scalar first.key first.is_key
scalar_left m a b differ scalar (datum.Record fs) first second = scalar first.key first.is_key

pub left_scalar : (m : Map) (a b : Part) → IsMeant m a → IsMeant m b → a ≢ b → ((k : ℕ) → a ≡ Key k → ⊥) → Same m a b → ⊥
left_scalar m a b first second differ scalar same =
    scalar_left m a b differ scalar first.0 first.1 (subst (λ (d : Datum). Means m d b) (sym (same first.0 second.0 first.1 second.1)) second.1)

pub right_scalar : (m : Map) (a b : Part) → IsMeant m a → IsMeant m b → a ≢ b → ((k : ℕ) → b ≡ Key k → ⊥) → Same m a b → ⊥
right_scalar m a b first second differ scalar same =
    scalar_left m b a (λ e. differ (sym e)) scalar second.0 second.1 (subst (λ (d : Datum). Means m d a) (same first.0 second.0 first.1 second.1) first.1)

-- one part is another: nothing is left to compare
pub same_leaves : (m : Map) (a b : Part) (old : List Pair) → a ≡ b → IsMeant m a → Leaves m (Same m a b) (2 * weight m a) old old
same_leaves m a b old same meant = record {
  more = [];
  is = sym (append-nil old);
  back = λ all. same_part m a b same;
  forth = λ claim. tt;
  pairs = tt;
  less = omega (arith, weight-tree m meant.0 a meant.1, tree_some meant.0);
}

-- ---- data of one form

fields_same : (fs gs : Fields) → names_of fs ≡ names_of gs → data_in fs ≡ data_in gs → fs ≡ gs
fields_same no_fields no_fields names parts = refl
fields_same no_fields (field k e gs) names parts = absurd (cc)
fields_same (field n d fs) no_fields names parts = absurd (cc)
fields_same (field n d fs) (field k e gs) names parts =
    let name : n ≡ k = cc in
    let first : d ≡ e = cc in
    let tail : names_of fs ≡ names_of gs = cc in
    let data_tail : data_in fs ≡ data_in gs = cc in
    let rest = fields_same fs gs tail data_tail in
    cc

record_same : (ns ks : List (List ℕ)) → record_form ns ≡ record_form ks → ns ≡ ks
record_same ns ks same = cc

-- a datum is known by its form and data
split_same : (d e : Datum) (f : Form) (ds : Data) → IsSplit d f ds → IsSplit e f ds → d ≡ e
split_same datum.Null e f ds first second = absurd first
split_same (datum.Truth b) e f ds first second = absurd first
split_same (datum.Whole z) e f ds first second = absurd first
split_same (datum.Array xs) datum.Null f ds first second = absurd second
split_same (datum.Array xs) (datum.Truth b) f ds first second = absurd second
split_same (datum.Array xs) (datum.Whole z) f ds first second = absurd second
split_same (datum.Array xs) (datum.Array ys) f ds first second = ap datum.Array (sym first.1 ∙ second.1)
split_same (datum.Array xs) (datum.Record gs) f ds first second = absurd (let x = first.0 in let y = second.0 in cc)
split_same (datum.Record fs) datum.Null f ds first second = absurd second
split_same (datum.Record fs) (datum.Truth b) f ds first second = absurd second
split_same (datum.Record fs) (datum.Whole z) f ds first second = absurd second
split_same (datum.Record fs) (datum.Array ys) f ds first second = absurd (let x = first.0 in let y = second.0 in cc)
split_same (datum.Record fs) (datum.Record gs) f ds first second =
    ap datum.Record (fields_same fs gs (record_same (names_of fs) (names_of gs) (sym first.0 ∙ second.0)) (sym first.1 ∙ second.1))

split_parts : (d : Datum) (f g : Form) (ds es : Data) → IsSplit d f ds → IsSplit d g es → (f ≡ g) × (ds ≡ es)
split_parts datum.Null f g ds es first second = absurd first
split_parts (datum.Truth b) f g ds es first second = absurd first
split_parts (datum.Whole z) f g ds es first second = absurd first
split_parts (datum.Array xs) f g ds es first second = (first.0 ∙ sym second.0, first.1 ∙ sym second.1)
split_parts (datum.Record fs) f g ds es first second = (first.0 ∙ sym second.0, first.1 ∙ sym second.1)

-- ---- shapes

pub record_not_list : (names : List (List ℕ)) (o : Option (List ℕ)) → record_of names o ≡ list_form → ⊥
record_not_list names None same = cc
record_not_list names (Some list) same = cc

named_same : (names : List (List ℕ)) (xs ys : List ℕ) → AreApart names → ((k : ℕ) → k < length xs → get_or xs k 0 < length names) → ((k : ℕ) → k < length ys → get_or ys k 0 < length names) → named names xs ≡ named names ys → xs ≡ ys
named_same names [] [] apart first second same = refl
named_same names [] (y ∷ ys) apart first second same = absurd (cc)
named_same names (x ∷ xs) [] apart first second same = absurd (cc)
named_same names (x ∷ xs) (y ∷ ys) apart first second same =
    let head : get_or names x [] ≡ get_or names y [] = cc in
    let tail : named names xs ≡ named names ys = cc in
    let one = apart_same names y x apart (second 0 (omega arith)) (first 0 (omega arith)) head in
    let rest = named_same names xs ys apart (λ k below. first (suc k) (omega arith)) (λ k below. second (suc k) (omega arith)) tail in
    cc

pub numbers_in : (t : Shapes) (n : ℕ) (list : List ℕ) → IsShapes t → slice_get t.lists n ≡ Some list → (k : ℕ) → k < length list → get_or list k 0 < length t.names
numbers_in t n list table found k =
    subst (λ (l : List ℕ). k < length l → get_or l k 0 < length t.names) (get_or_from_slice_get t.lists n list [] found)
    (table.numbers n [] (slice_get_within t.lists n list found) k 0)

-- two shapes of one form are one
forms_shapes : (t : Shapes) (s u : Shape) → IsShapes t → form_of t s ≡ form_of t u → (form_of t s ≡ no_form → ⊥) → s ≡ u
forms_shapes t shape.Array shape.Array table same known = refl
forms_shapes t shape.Array (shape.Record n) table same known = absurd (record_not_list t.names (slice_get t.lists n) (sym same))
forms_shapes t (shape.Record n) shape.Array table same known = absurd (record_not_list t.names (slice_get t.lists n) same)
forms_shapes t (shape.Record n) (shape.Record o) table same known =
    let first = record_known t.names (slice_get t.lists n) known in
    let second = record_known t.names (slice_get t.lists o) (λ none. known (same ∙ none)) in
    let forms : record_form (named t.names first.0) ≡ record_form (named t.names second.0) = sym (ap (record_of t.names) first.1) ∙ same ∙ ap (record_of t.names) second.1 in
    let lists = named_same t.names first.0 second.0 table.names_apart (numbers_in t n first.0 table first.1) (numbers_in t o second.0 table second.1)
    (record_same (named t.names first.0) (named t.names second.0) forms) in
    let here : get_or t.lists n [] ≡ get_or t.lists o [] = get_or_from_slice_get t.lists n first.0 [] first.1 ∙ lists ∙ sym (get_or_from_slice_get t.lists o second.0 [] second.1) in
    ap shape.Record (apart_same t.lists o n table.lists_apart (slice_get_within t.lists o second.0 second.1) (slice_get_within t.lists n first.0 first.1) here)

-- ---- the parts of two nodes

data_back : (m : Map) (ds es : Data) (ps qs : List Part) → MeanAll m ds ps → MeanAll m es qs → length ps ≡ length qs → ((n : ℕ) → Same m (get_or ps n Null) (get_or qs n Null)) → ds ≡ es
data_back m no_items no_items ps qs a b same all = refl
data_back m no_items (item e es) ps [] a b same all = absurd b
data_back m no_items (item e es) ps (q ∷ qs) a b same all = absurd (omega (arith, ap length a, same))
data_back m (item d ds) es [] qs a b same all = absurd a
data_back m (item d ds) no_items (p ∷ ps) qs a b same all = absurd (omega (arith, ap length b, same))
data_back m (item d ds) (item e es) (p ∷ ps) [] a b same all = absurd b
data_back m (item d ds) (item e es) (p ∷ ps) (q ∷ qs) a b same all =
    let first = all 0 d e a.0 b.0 in
    let rest = data_back m ds es ps qs a.1 b.1 (omega arith) (λ n. all (suc n)) in
    cc

data_forth : (m : Map) (ds : Data) (ps qs : List Part) → MeanAll m ds ps → MeanAll m ds qs → (n : ℕ) → Same m (get_or ps n Null) (get_or qs n Null)
data_forth m no_items ps qs a b n = same_part m (get_or ps n Null) (get_or qs n Null) (ap (λ (l : List Part). get_or l n Null) (a ∙ sym b))
data_forth m (item d ds) [] qs a b n = absurd a
data_forth m (item d ds) (p ∷ ps) [] a b n = absurd b
data_forth m (item d ds) (p ∷ ps) (q ∷ qs) a b zero = same_from m d d p q a.0 b.0 refl
data_forth m (item d ds) (p ∷ ps) (q ∷ qs) a b (suc n) = data_forth m ds ps qs a.1 b.1 n

module _ (h : Heap) (j k : ℕ) (x y : Node) (first : get h.nodes j ≡ Some x) (second : get h.nodes k ≡ Some y) (left : IsMeant (map_of h) (Key j)) (right : IsMeant (map_of h) (Key k)) where
  one : Held_node h j left.0
  one = held_node h (Key j) j left.0 refl left.1

  two : Held_node h k right.0
  two = held_node h (Key k) k right.0 refl right.1

  -- where they stand for one datum, they have one form and the same data
  same_parts : Same (map_of h) (Key j) (Key k) → (one.form ≡ two.form) × (one.data_of ≡ two.data_of)
  same_parts same = split_parts left.0 one.form two.form one.data_of two.data_of one.split
      (subst (λ (d : Datum). IsSplit d two.form two.data_of) (sym (same left.0 right.0 left.1 right.1)) two.split)

  pub other_shapes : IsShapes h.shapes → x.shape ≢ y.shape → Same (map_of h) (Key j) (Key k) → ⊥
  other_shapes table differ same =
      let form_x = node_form h j x left.0 one first in
      let form_y = node_form h k y right.0 two second in
      differ (forms_shapes h.shapes x.shape y.shape table (form_x ∙ (same_parts same).0 ∙ sym form_y) (λ none. split_known left.0 one.form one.data_of one.split (sym form_x ∙ none)))

  pub other_lengths : length x.parts.items ≢ length y.parts.items → Same (map_of h) (Key j) (Key k) → ⊥
  other_lengths differ same =
      differ (omega (
        arith,
        ap length (node_parts h j x left.0 one first),
        ap length (node_parts h k y right.0 two second),
        mean_all-length (map_of h) one.data_of one.parts one.mean,
        mean_all-length (map_of h) two.data_of two.parts two.mean,
        ap length_of (same_parts same).1,
      ))

  module _ (shapes : x.shape ≡ y.shape) (long : length x.parts.items ≡ length y.parts.items) where
    pub is_pair : IsPair (map_of h) (j, k, 0)
    is_pair = record {
      left = left;
      right = right;
      form = ap form_in (body-node h j x first) ∙ ap (form_of h.shapes) shapes ∙ sym (ap form_in (body-node h k y second));
      long = ap length (ap parts_in (body-node h j x first)) ∙ long ∙ sym (ap length (ap parts_in (body-node h k y second)));
    }

    forms : one.form ≡ two.form
    forms = sym (ap form_in one.is) ∙ is_pair.form ∙ ap form_in two.is

    lengths : length one.parts ≡ length two.parts
    lengths = sym (ap length (ap parts_in one.is)) ∙ is_pair.long ∙ ap length (ap parts_in two.is)

    nodes_back : SameFrom (map_of h) (j, k, 0) → Same (map_of h) (Key j) (Key k)
    nodes_back all =
        let parts = data_back (map_of h) one.data_of two.data_of one.parts two.parts one.mean two.mean lengths
        (λ n. subst (λ (o : Option Body). Same (map_of h) (get_or one.parts n Null) (part_of o n)) two.is
        (subst (λ (o : Option Body). Same (map_of h) (part_of o n) (part_of (at (map_of h) k) n)) one.is (all n (omega arith)))) in
        same_from (map_of h) left.0 right.0 (Key j) (Key k) left.1 right.1
        (split_same left.0 right.0 one.form one.data_of one.split
        (subst (λ (f : Form). IsSplit right.0 f one.data_of) (sym forms) (subst (λ (es : Data). IsSplit right.0 two.form es) (sym parts) two.split)))

    nodes_forth : Same (map_of h) (Key j) (Key k) → SameFrom (map_of h) (j, k, 0)
    nodes_forth same n from =
        let data_same = (same_parts same).1 in
        subst (λ (o : Option Body). Same (map_of h) (part_of o n) (part_of (at (map_of h) k) n)) (sym one.is)
        (subst (λ (o : Option Body). Same (map_of h) (get_or one.parts n Null) (part_of o n)) (sym two.is)
        (data_forth (map_of h) one.data_of one.parts two.parts one.mean (subst (λ (es : Data). MeanAll (map_of h) es two.parts) (sym data_same) two.mean) n))

    pub nodes_leave : (old : List Pair) → Leaves (map_of h) (Same (map_of h) (Key j) (Key k)) (2 * weight (map_of h) (Key j)) old (old ++ (j, k, 0) ∷ [])
    nodes_leave old = record {
      more = (j, k, 0) ∷ [];
      is = refl;
      back = λ all. nodes_back all.0;
      forth = λ same. (nodes_forth same, tt);
      pairs = (is_pair, tt);
      less = omega (
        arith,
        weight-tree (map_of h) left.0 (Key j) left.1,
        tree-split left.0 one.form one.data_of one.split,
        total-trees (map_of h) one.data_of one.parts one.mean,
        ap (λ (o : Option Body). total (weight (map_of h)) (parts_in o)) one.is,
      );
    }

-- ---- the next pair of parts

total-drop : (f : Part → ℕ) (ps : List Part) (i : ℕ) → i < length ps → total f (drop i ps) ≡ f (get_or ps i Null) + total f (drop (suc i) ps)
total-drop f [] i below = absurd (omega arith)
total-drop f (p ∷ ps) zero below = refl
total-drop f (p ∷ ps) (suc i) below = total-drop f ps i (omega arith)

pub total-drop_more : (f : Part → ℕ) (ps : List Part) (i : ℕ) → i < length ps → total f (drop i ps) ≡ f (get_or ps i Null) + total f (drop (i + 1) ps)
total-drop_more f ps i below =
    let next : suc i ≡ i + 1 = omega arith in
    total-drop f ps i below ∙ ap (λ (n : ℕ). f (get_or ps i Null) + total f (drop n ps)) next

part_of-get_or : (o : Option Body) (i : ℕ) → part_of o i ≡ get_or (parts_in o) i Null
part_of-get_or None i = refl
part_of-get_or (Some b) i = refl

get_or-past : (ps : List Part) (i : ℕ) → length ps ≤ i → get_or ps i Null ≡ Null
get_or-past [] i past = refl
get_or-past (p ∷ ps) zero past = absurd (omega arith)
get_or-past (p ∷ ps) (suc i) past = get_or-past ps i (omega arith)

-- all parts were compared
pub past_leaves : (m : Map) (j k i : ℕ) (old : List Pair) → IsPair m (j, k, i) → length (parts_in (at m j)) ≤ i → Leaves m (SameFrom m (j, k, i)) (pair_work m (j, k, i)) old old
past_leaves m j k i old pair past = record {
  more = [];
  is = sym (append-nil old);
  back = λ all n from. same_part m (part_of (at m j) n) (part_of (at m k) n)
      (part_of-get_or (at m j) n ∙ get_or-past (parts_in (at m j)) n (omega arith) ∙ sym (part_of-get_or (at m k) n ∙ get_or-past (parts_in (at m k)) n (omega (arith, pair.long))));
  forth = λ claim. tt;
  pairs = tt;
  less = omega arith;
}

pub next_compares : (m : Map) (j k i : ℕ) (a b : Part) (old mid new : List Pair) (answer : Boolean) → IsPair m (j, k, i) → i < length (parts_in (at m j)) → a ≡ part_of (at m j) i → b ≡ part_of (at m k) i → mid ≡ old ++ (j, k, i + 1) ∷ [] → Compares m (Same m a b) (2 * weight m a) mid new answer → Compares m (SameFrom m (j, k, i)) (pair_work m (j, k, i)) old new answer
next_compares m j k i a b old mid new true pair below is_a is_b pushed leaves = record {
  more = (j, k, i + 1) ∷ leaves.more;
  is = leaves.is ∙ ap (λ (l : List Pair). l ++ leaves.more) pushed ∙ append_assoc old ((j, k, i + 1) ∷ []) leaves.more;
  back = λ all n from. elim (cases_eq n i) [
    | inl same ↦ subst (λ (x : ℕ). Same m (part_of (at m j) x) (part_of (at m k) x)) (sym same)
        (subst (λ (p : Part). Same m p (part_of (at m k) i)) is_a (subst (Same m a) is_b (leaves.back all.1)))
    | inr differ ↦ all.0 n (omega (arith, differ))
  ];
  forth = λ claim. (
    (λ n from. claim n (omega arith)),
    leaves.forth (subst (Same m a) (sym is_b) (subst (λ (p : Part). Same m p (part_of (at m k) i)) (sym is_a) (claim i (omega arith)))),
  );
  pairs = (record { left = pair.left; right = pair.right; form = pair.form; long = pair.long }, leaves.pairs);
  less = omega (arith, leaves.less, total-drop_more (weight m) (parts_in (at m j)) i below, ap (weight m) (is_a ∙ part_of-get_or (at m j) i));
}
next_compares m j k i a b old mid new false pair below is_a is_b pushed never =
    λ claim. never (subst (Same m a) (sym is_b) (subst (λ (p : Part). Same m p (part_of (at m k) i)) (sym is_a) (claim i (omega arith))))

-- the parts of a node stand for data
pub pair_parts_meant : (h : Heap) (j i : ℕ) → IsMeant (map_of h) (Key j) → i < length (parts_in (at (map_of h) j)) → IsMeant (map_of h) (part_of (at (map_of h) j) i)
pair_parts_meant h j i meant below =
    let node = held_node h (Key j) j meant.0 refl meant.1 in
    let here : i < length node.parts = omega (arith, below, ap length (ap parts_in node.is)) in
    (nth node.data_of i, subst (λ (o : Option Body). Means (map_of h) (nth node.data_of i) (part_of o i)) (sym node.is) (mean_all-nth (map_of h) node.data_of node.parts i node.mean here))

-- the place is in the node
pub pair_slot : (h : Heap) (j i : ℕ) → IsMeant (map_of h) (Key j) → i < length (parts_in (at (map_of h) j)) → IsNodeSlot (map_of h) j i
pair_slot h j i meant below =
    let node = held_node h (Key j) j meant.0 refl meant.1 in
    record { body = record { form = node.form; parts = node.parts }; was = node.is; within = omega (arith, below, ap length (ap parts_in node.is)) }

-- ---- a turn of the comparison

pub turn_back : (m : Map) (old new : List Pair) (pair : Pair) (claim : Type 0) → Leaves m (SameFrom m pair) (pair_work m pair) old new → (AreSame m (old ++ pair ∷ []) → claim) → AreSame m new → claim
turn_back m old new pair claim leaves back all =
    let parts = subst (AreSame m) leaves.is all in
    back (same_both m old (pair ∷ []) (same_front m old leaves.more parts) (leaves.back (same_end m old leaves.more parts), tt))

pub turn_forth : (m : Map) (old new : List Pair) (pair : Pair) → Leaves m (SameFrom m pair) (pair_work m pair) old new → AreSame m (old ++ pair ∷ []) → AreSame m new
turn_forth m old new pair leaves all =
    subst (AreSame m) (sym leaves.is) (same_both m old leaves.more (same_front m old (pair ∷ []) all) (leaves.forth (same_end m old (pair ∷ []) all).0))

pub turn_pairs : (m : Map) (old new : List Pair) (pair : Pair) → Leaves m (SameFrom m pair) (pair_work m pair) old new → ArePairs m (old ++ pair ∷ []) → ArePairs m new
turn_pairs m old new pair leaves all =
    subst (ArePairs m) (sym leaves.is) (pairs_both m old leaves.more (pairs_front m old (pair ∷ []) all) leaves.pairs)

pub turn_less : (m : Map) (old new : List Pair) (pair : Pair) → Leaves m (SameFrom m pair) (pair_work m pair) old new → pair_works m new < pair_works m (old ++ pair ∷ [])
turn_less m old new pair leaves =
    omega (arith, ap (pair_works m) leaves.is, pair_works-append m old leaves.more, pair_works-append m old (pair ∷ []), leaves.less)
