-- The text of a datum, a part at a time.
use Rattle.std.proofs.Common.{◌≡◌, ℕ, zero, suc, ◌+◌, ◌*◌, ◌≤◌, ◌<◌, List, [], ◌∷◌, ◌++◌, get_or, length, Option, Some, None, refl, sym, ◌∙◌, ap, subst, arith, append-nil, append_assoc, slice_get}
use Rattle.slab.specs.Slab.{get}
use Rattle.wy_heap.proofs.BuildLemmas.{length-named}
use Rattle.wy_value.specs.declared.shapes.Shapes.{Shapes}
use Rattle.wy_value.specs.Shapes.{named}
use Rattle.wy_value.specs.Datum.{Datum, Data, no_items, item, Fields, no_fields, field}
use Rattle.wy_value.specs.Datum as datum
use Rattle.wy_value.specs.Values.{names_of, length_of}
use Rattle.wy_value.specs.Shown.{shown, more_items, more_fields}
use Rattle.wy_heap.specs.declared.part.Part.{Part}
use Rattle.wy_heap.specs.declared.part.Part.TheVariants.{Null, Key}
use Rattle.wy_heap.specs.declared.node.Shape.{Shape}
use Rattle.wy_heap.specs.declared.node.Shape.TheVariants as shape
use Rattle.wy_heap.specs.declared.node.Node.{Node}
use Rattle.wy_heap.specs.declared.heap.Heap.{Heap}
use Rattle.wy_heap.specs.Nodes.{Form, record_form, record_of, form_of, Body, Map, map_of, at, form_in, parts_in}
use Rattle.wy_heap.specs.Meaning.{data_in, Means, IsSplit, IsMeant}
use Rattle.wy_heap.specs.Slots.{nth, part_of}
use Rattle.wy_heap.specs.Weighing.{total, weight}
use Rattle.wy_heap.specs.Showing.{opening, closing, separator, lead_of, items_from, fields_from, shown_from, Rest, IsLeft, AreLeft, IsText, rest_work, rest_works, GoesOn}
use Rattle.wy_heap.proofs.MeaningLemmas.{means_unique, mean_all-length, mean_all-nth}
use Rattle.wy_heap.proofs.SlotLemmas.{held_node, node_form, node_parts, data_in-length}
use Rattle.wy_heap.proofs.WeighLemmas.{tree_some, tree-split, weight-tree, total-trees}
use Rattle.wy_heap.proofs.CompareLemmas.{total-drop_more, record_not_list}

-- ---- lists of what is left

rest_works-append : (m : Map) (xs ys : List Rest) → rest_works m (xs ++ ys) ≡ rest_works m xs + rest_works m ys
rest_works-append m [] ys = omega arith
rest_works-append m (x ∷ xs) ys = omega (arith, rest_works-append m xs ys)

-- what lies on top is written first
left_both : (m : Map) (xs ys : List Rest) (t u : List ℕ) → AreLeft m xs t → AreLeft m ys u → AreLeft m (xs ++ ys) (u ++ t)
left_both m [] ys t u first second = subst (AreLeft m ys) (sym (append-nil u) ∙ ap (λ (l : List ℕ). u ++ l) (sym first)) second
left_both m (x ∷ xs) ys t u first second = (
  first.0,
  u ++ first.1,
  first.2,
  left_both m xs ys first.1 u first.3 second,
  ap (λ (l : List ℕ). u ++ l) first.4 ∙ sym (append_assoc u first.1 first.0),
)

pub left_top : (m : Map) (xs : List Rest) (r : Rest) (t : List ℕ) → AreLeft m (xs ++ r ∷ []) t → (a : List ℕ) × (b : List ℕ) × IsLeft m r a × AreLeft m xs b × (t ≡ a ++ b)
left_top m [] r t all = (all.0, [], all.2, refl, all.4 ∙ ap (λ (l : List ℕ). l ++ all.0) all.3 ∙ sym (append-nil all.0))
left_top m (x ∷ xs) r t all =
    let top = left_top m xs r all.1 all.3 in
    (top.0, top.1 ++ all.0, top.2, (all.0, top.1, all.2, top.3, refl), all.4 ∙ ap (λ (l : List ℕ). l ++ all.0) top.4 ∙ append_assoc top.0 top.1 all.0)

-- ---- the text from a place on

items_from-step : (ds : Data) (i : ℕ) → i < length_of ds → items_from ds i ≡ item (nth ds i) (items_from ds (suc i))
items_from-step no_items i below = absurd (omega arith)
items_from-step (item d no_items) zero below = refl
items_from-step (item d (item e ds)) zero below = refl
items_from-step (item d ds) (suc i) below = items_from-step ds i (omega arith)

items_from-end : (ds : Data) (i : ℕ) → length_of ds ≤ i → items_from ds i ≡ no_items
items_from-end no_items zero past = refl
items_from-end no_items (suc i) past = refl
items_from-end (item d ds) zero past = absurd (omega arith)
items_from-end (item d ds) (suc i) past = items_from-end ds i (omega arith)

fields_from-step : (fs : Fields) (i : ℕ) → i < length (names_of fs) → fields_from fs i ≡ field (get_or (names_of fs) i []) (nth (data_in fs) i) (fields_from fs (suc i))
fields_from-step no_fields i below = absurd (omega arith)
fields_from-step (field n d no_fields) zero below = refl
fields_from-step (field n d (field k e fs)) zero below = refl
fields_from-step (field n d fs) (suc i) below = fields_from-step fs i (omega arith)

fields_from-end : (fs : Fields) (i : ℕ) → length (names_of fs) ≤ i → fields_from fs i ≡ no_fields
fields_from-end no_fields zero past = refl
fields_from-end no_fields (suc i) past = refl
fields_from-end (field n d fs) zero past = absurd (omega arith)
fields_from-end (field n d fs) (suc i) past = fields_from-end fs i (omega arith)

array_step : (items : Data) (i : ℕ) → i < length_of items → shown_from (datum.Array items) i ≡ separator i ++ (shown (nth items i) ++ shown_from (datum.Array items) (suc i))
array_step no_items i below = absurd (omega arith)
array_step (item d ds) zero below = append_assoc (shown d) (more_items ds) (93 ∷ []) ∙ ap (λ (es : Data). shown d ++ (more_items es ++ 93 ∷ [])) (from_zero ds)
  where
    from_zero : (es : Data) → es ≡ items_from (item d es) (suc zero)
    from_zero no_items = refl
    from_zero (item e fs) = refl
array_step (item d ds) (suc i) below =
    ap (λ (es : Data). more_items es ++ 93 ∷ []) (items_from-step (item d ds) (suc i) below)
    ∙ ap (λ (l : List ℕ). 44 ∷ 32 ∷ l) (append_assoc (shown (nth ds i)) (more_items (items_from ds (suc i))) (93 ∷ []))

record_step : (fs : Fields) (i : ℕ) → i < length (names_of fs) → shown_from (datum.Record fs) i ≡ (separator i ++ (get_or (names_of fs) i [] ++ 58 ∷ 32 ∷ [])) ++ (shown (nth (data_in fs) i) ++ shown_from (datum.Record fs) (suc i))
record_step no_fields i below = absurd (omega arith)
record_step (field n d fs) zero below =
    append_assoc (n ++ 58 ∷ 32 ∷ shown d) (more_fields fs) (125 ∷ [])
    ∙ append_assoc n (58 ∷ 32 ∷ shown d) (more_fields fs ++ 125 ∷ [])
    ∙ sym (append_assoc n (58 ∷ 32 ∷ []) (shown d ++ (more_fields fs ++ 125 ∷ [])))
    ∙ ap (λ (gs : Fields). (n ++ 58 ∷ 32 ∷ []) ++ (shown d ++ (more_fields gs ++ 125 ∷ []))) (from_zero fs)
  where
    from_zero : (gs : Fields) → gs ≡ fields_from (field n d gs) (suc zero)
    from_zero no_fields = refl
    from_zero (field k e hs) = refl
record_step (field n d fs) (suc i) below =
    let name = get_or (names_of fs) i [] in
    let value = shown (nth (data_in fs) i) in
    let after = more_fields (fields_from fs (suc i)) in
    ap (λ (gs : Fields). more_fields gs ++ 125 ∷ []) (fields_from-step (field n d fs) (suc i) below)
    ∙ ap (λ (l : List ℕ). 44 ∷ 32 ∷ l)
    (append_assoc (name ++ 58 ∷ 32 ∷ value) after (125 ∷ [])
    ∙ append_assoc name (58 ∷ 32 ∷ value) (after ++ 125 ∷ [])
    ∙ sym (append_assoc name (58 ∷ 32 ∷ []) (value ++ (after ++ 125 ∷ []))))

-- the next part with what stands before it, and the rest
shown_step : (d : Datum) (form : Form) (ds : Data) (i : ℕ) → IsSplit d form ds → i < length_of ds → shown_from d i ≡ lead_of form i ++ (shown (nth ds i) ++ shown_from d (suc i))
shown_step datum.Null form ds i split below = absurd split
shown_step (datum.Truth b) form ds i split below = absurd split
shown_step (datum.Whole z) form ds i split below = absurd split
shown_step (datum.Array items) form ds i split below =
    array_step items i (omega (arith, below, ap length_of split.1))
    ∙ ap (λ (es : Data). separator i ++ (shown (nth es i) ++ shown_from (datum.Array items) (suc i))) (sym split.1)
    ∙ ap (λ (f : Form). lead_of f i ++ (shown (nth ds i) ++ shown_from (datum.Array items) (suc i))) (sym split.0)
shown_step (datum.Record fs) form ds i split below =
    record_step fs i (omega (arith, below, ap length_of split.1, data_in-length fs))
    ∙ ap (λ (es : Data). (separator i ++ (get_or (names_of fs) i [] ++ 58 ∷ 32 ∷ [])) ++ (shown (nth es i) ++ shown_from (datum.Record fs) (suc i))) (sym split.1)
    ∙ ap (λ (f : Form). lead_of f i ++ (shown (nth ds i) ++ shown_from (datum.Record fs) (suc i))) (sym split.0)

-- the text begins with the bracket of its node's shape
shown_opening : (t : Shapes) (s : Shape) (d : Datum) (form : Form) (ds : Data) → IsSplit d form ds → form_of t s ≡ form → shown d ≡ opening s ∷ shown_from d 0
shown_opening t s datum.Null form ds split is = absurd split
shown_opening t s (datum.Truth b) form ds split is = absurd split
shown_opening t s (datum.Whole z) form ds split is = absurd split
shown_opening t shape.Array (datum.Array items) form ds split is = refl
shown_opening t (shape.Record n) (datum.Array items) form ds split is = absurd (record_not_list t.names (slice_get t.lists n) (is ∙ split.0))
shown_opening t shape.Array (datum.Record fs) form ds split is = absurd (let e = split.0 in cc)
shown_opening t (shape.Record n) (datum.Record fs) form ds split is = refl

array_end : (items : Data) (i : ℕ) → length_of items ≤ i → shown_from (datum.Array items) i ≡ 93 ∷ []
array_end no_items zero past = refl
array_end (item d ds) zero past = absurd (omega arith)
array_end items (suc i) past = ap (λ (es : Data). more_items es ++ 93 ∷ []) (items_from-end items (suc i) past)

record_end : (fs : Fields) (i : ℕ) → length (names_of fs) ≤ i → shown_from (datum.Record fs) i ≡ 125 ∷ []
record_end no_fields zero past = refl
record_end (field n d fs) zero past = absurd (omega arith)
record_end fs (suc i) past = ap (λ (gs : Fields). more_fields gs ++ 125 ∷ []) (fields_from-end fs (suc i) past)

shown_closing : (t : Shapes) (s : Shape) (d : Datum) (form : Form) (ds : Data) (i : ℕ) → IsSplit d form ds → form_of t s ≡ form → length_of ds ≤ i → shown_from d i ≡ closing s ∷ []
shown_closing t s datum.Null form ds i split is past = absurd split
shown_closing t s (datum.Truth b) form ds i split is past = absurd split
shown_closing t s (datum.Whole z) form ds i split is past = absurd split
shown_closing t shape.Array (datum.Array items) form ds i split is past = array_end items i (omega (arith, past, ap length_of split.1))
shown_closing t (shape.Record n) (datum.Array items) form ds i split is past = absurd (record_not_list t.names (slice_get t.lists n) (is ∙ split.0))
shown_closing t shape.Array (datum.Record fs) form ds i split is past = absurd (let e = split.0 in cc)
shown_closing t (shape.Record n) (datum.Record fs) form ds i split is past = record_end fs i (omega (arith, past, ap length_of split.1, data_in-length fs))

-- ---- what was begun

pub scalar_goes : (m : Map) (p : Part) (d : Datum) (old : List Rest) (before after : List ℕ) → Means m d p → after ≡ before ++ shown d → GoesOn m (IsText m p) (2 * weight m p) old old before after
scalar_goes m p d old before after means is = record {
  more = [];
  is = sym (append-nil old);
  wrote = shown d;
  out = is;
  rest = λ t w. ([], refl, w.2 ∙ ap shown (means_unique m w.0 d p w.1 means) ∙ sym (append-nil (shown d)));
  less = omega (arith, weight-tree m d p means, tree_some d);
}

pub node_goes : (h : Heap) (p : Part) (key : ℕ) (n : Node) (old new : List Rest) (before after : List ℕ) → p ≡ Key key → get h.nodes key ≡ Some n → IsMeant (map_of h) p → new ≡ old ++ (key, 0) ∷ [] → after ≡ before ++ opening n.shape ∷ [] → GoesOn (map_of h) (IsText (map_of h) p) (2 * weight (map_of h) p) old new before after
node_goes h p key n old new before after is was meant pushed wrote =
    let node = held_node h p key meant.0 is meant.1 in
    record {
      more = (key, 0) ∷ [];
      is = pushed;
      wrote = opening n.shape ∷ [];
      out = wrote;
      rest = λ t w.
          let same = means_unique (map_of h) w.0 meant.0 p w.1 meant.1 in (
            shown_from meant.0 0,
            (shown_from meant.0 0, [], (meant.0, subst (Means (map_of h) meant.0) is meant.1, omega arith, refl), refl, refl),
            w.2 ∙ ap shown same ∙ shown_opening h.shapes n.shape meant.0 node.form node.data_of node.split (node_form h key n meant.0 node was),
          );
      less = omega (
        arith,
        weight-tree (map_of h) meant.0 p meant.1,
        tree-split meant.0 node.form node.data_of node.split,
        total-trees (map_of h) node.data_of node.parts node.mean,
        ap (λ (o : Option Body). total (weight (map_of h)) (parts_in o)) node.is,
      );
    }

-- ---- what goes on

pub end_goes : (h : Heap) (key place : ℕ) (n : Node) (old : List Rest) (before after : List ℕ) → get h.nodes key ≡ Some n → length n.parts.items ≤ place → after ≡ before ++ closing n.shape ∷ [] → GoesOn (map_of h) (IsLeft (map_of h) (key, place)) (rest_work (map_of h) (key, place)) old old before after
end_goes h key place n old before after was past wrote = record {
  more = [];
  is = sym (append-nil old);
  wrote = closing n.shape ∷ [];
  out = wrote;
  rest = λ t w.
      let node = held_node h (Key key) key w.0 refl w.1 in (
        [],
        refl,
        w.3 ∙ shown_closing h.shapes n.shape w.0 node.form node.data_of place node.split (node_form h key n w.0 node was)
            (omega (arith, past, mean_all-length (map_of h) node.data_of node.parts node.mean, ap length (node_parts h key n w.0 node was))),
      );
  less = omega arith;
}

pub part_goes : (h : Heap) (key place : ℕ) (part : Part) (old mid new : List Rest) (before middle after : List ℕ) → place < length (parts_in (at (map_of h) key)) → part ≡ part_of (at (map_of h) key) place → middle ≡ before ++ lead_of (form_in (at (map_of h) key)) place → mid ≡ old ++ (key, place + 1) ∷ [] → GoesOn (map_of h) (IsText (map_of h) part) (2 * weight (map_of h) part) mid new middle after → GoesOn (map_of h) (IsLeft (map_of h) (key, place)) (rest_work (map_of h) (key, place)) old new before after
part_goes h key place part old mid new before middle after below is lead pushed goes = record {
  more = (key, place + 1) ∷ goes.more;
  is = goes.is ∙ ap (λ (l : List Rest). l ++ goes.more) pushed ∙ append_assoc old ((key, place + 1) ∷ []) goes.more;
  wrote = lead_of (form_in (at (map_of h) key)) place ++ goes.wrote;
  out = goes.out ∙ ap (λ (l : List ℕ). l ++ goes.wrote) lead ∙ append_assoc before (lead_of (form_in (at (map_of h) key)) place) goes.wrote;
  rest = λ t w.
      let d = w.0 in
      let node = held_node h (Key key) key d refl w.1 in
      let form : form_in (at (map_of h) key) ≡ node.form = ap form_in node.is in
      let here : place < length node.parts = omega (arith, below, ap length (ap parts_in node.is)) in
      let inside : place < length_of node.data_of = omega (arith, here, mean_all-length (map_of h) node.data_of node.parts node.mean) in
      let value : Means (map_of h) (nth node.data_of place) part =
      subst (Means (map_of h) (nth node.data_of place)) (sym (is ∙ ap (λ (o : Option Body). part_of o place) node.is)) (mean_all-nth (map_of h) node.data_of node.parts place node.mean here) in
      let next : suc place ≡ place + 1 = omega arith in
      let step : shown_from d place ≡ lead_of (form_in (at (map_of h) key)) place ++ (shown (nth node.data_of place) ++ shown_from d (place + 1)) =
      shown_step d node.form node.data_of place node.split inside
      ∙ ap (λ (f : Form). lead_of f place ++ (shown (nth node.data_of place) ++ shown_from d (suc place))) (sym form)
      ∙ ap (λ (i : ℕ). lead_of (form_in (at (map_of h) key)) place ++ (shown (nth node.data_of place) ++ shown_from d i)) next in
      let one = goes.rest (shown (nth node.data_of place)) (nth node.data_of place, value, refl) in (
        one.0 ++ shown_from d (place + 1),
        (shown_from d (place + 1), one.0, (d, w.1, omega (arith, below), refl), one.1, refl),
        w.3 ∙ step
            ∙ ap (λ (l : List ℕ). lead_of (form_in (at (map_of h) key)) place ++ (l ++ shown_from d (place + 1))) one.2
            ∙ ap (λ (l : List ℕ). lead_of (form_in (at (map_of h) key)) place ++ l) (append_assoc goes.wrote one.0 (shown_from d (place + 1)))
            ∙ sym (append_assoc (lead_of (form_in (at (map_of h) key)) place) goes.wrote (one.0 ++ shown_from d (place + 1))),
      );
  less = omega (arith, goes.less, total-drop_more (weight (map_of h)) (parts_in (at (map_of h) key)) place below, ap (weight (map_of h)) (is ∙ part_of-get_or (at (map_of h) key) place));
}
  where
    part_of-get_or : (o : Option Body) (i : ℕ) → part_of o i ≡ get_or (parts_in o) i Null
    part_of-get_or None i = refl
    part_of-get_or (Some b) i = refl

-- ---- names

pub named-get_or : (names : List (List ℕ)) (list : List ℕ) (i : ℕ) → i < length list → get_or (named names list) i [] ≡ get_or names (get_or list i 0) []
named-get_or names [] i below = absurd (omega arith)
named-get_or names (n ∷ ns) zero below = refl
named-get_or names (n ∷ ns) (suc i) below = named-get_or names ns i (omega arith)

record_long : (d : Datum) (names : List (List ℕ)) (ds : Data) → IsSplit d (record_form names) ds → length_of ds ≡ length names
record_long datum.Null names ds split = absurd split
record_long (datum.Truth b) names ds split = absurd split
record_long (datum.Whole z) names ds split = absurd split
record_long (datum.Array items) names ds split = absurd (let e = split.0 in cc)
record_long (datum.Record fs) names ds split =
    let same = names_same names (names_of fs) split.0 in
    omega (arith, ap length_of split.1, data_in-length fs, ap length same)
  where
    names_same : (ns ks : List (List ℕ)) → record_form ns ≡ record_form ks → ns ≡ ks
    names_same ns ks e = cc

-- a record's node has as many parts as its shape has fields
pub fields_long : (h : Heap) (key : ℕ) (n : Node) (number : ℕ) (list : List ℕ) → get h.nodes key ≡ Some n → n.shape ≡ shape.Record number → slice_get h.shapes.lists number ≡ Some list → IsMeant (map_of h) (Key key) → length (parts_in (at (map_of h) key)) ≡ length list
fields_long h key n number list was is found meant =
    let node = held_node h (Key key) key meant.0 refl meant.1 in
    let form : node.form ≡ record_form (named h.shapes.names list) = sym (node_form h key n meant.0 node was) ∙ ap (form_of h.shapes) is ∙ ap (record_of h.shapes.names) found in
    let long = record_long meant.0 (named h.shapes.names list) node.data_of (subst (λ (f : Form). IsSplit meant.0 f node.data_of) form node.split) in
    omega (arith, long, length-named h.shapes.names list, ap length (ap parts_in node.is), mean_all-length (map_of h) node.data_of node.parts node.mean)

-- ---- a turn of the work

pub turn_left : (m : Map) (r : Rest) (old new : List Rest) (before after whole t : List ℕ) → GoesOn m (IsLeft m r) (rest_work m r) old new before after → AreLeft m (old ++ r ∷ []) t → whole ≡ before ++ t → (u : List ℕ) × AreLeft m new u × (whole ≡ after ++ u)
turn_left m r old new before after whole t goes all is =
    let top = left_top m old r t all in
    let one = goes.rest top.0 top.2 in (
      one.0 ++ top.1,
      subst (λ (l : List Rest). AreLeft m l (one.0 ++ top.1)) (sym goes.is) (left_both m old goes.more top.1 one.0 top.3 one.1),
      is ∙ ap (λ (l : List ℕ). before ++ l) (top.4 ∙ ap (λ (l : List ℕ). l ++ top.1) one.2 ∙ append_assoc goes.wrote one.0 top.1)
          ∙ sym (append_assoc before goes.wrote (one.0 ++ top.1)) ∙ ap (λ (l : List ℕ). l ++ (one.0 ++ top.1)) (sym goes.out),
    )

pub turn_fewer : (m : Map) (r : Rest) (old new : List Rest) (before after : List ℕ) → GoesOn m (IsLeft m r) (rest_work m r) old new before after → rest_works m new < rest_works m (old ++ r ∷ [])
turn_fewer m r old new before after goes =
    omega (arith, ap (rest_works m) goes.is, rest_works-append m old goes.more, rest_works-append m old (r ∷ []), goes.less)
