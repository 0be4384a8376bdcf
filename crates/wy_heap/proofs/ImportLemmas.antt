-- What imports keep.
use Rattle.std.proofs.Common.{◌≡◌, inl, inr, ℕ, zero, suc, ◌+◌, ◌-◌, ◌≤◌, ◌<◌, List, [], ◌∷◌, ◌++◌, get_or, length, Option, Some, None, IsSome, refl, sym, ◌∙◌, ap, subst, arith, slice_get, append_assoc, take, drop, map, MatchOption}
use Rattle.std.proofs.Math.Seq.{take-append_seam, drop-append_seam}
use Rattle.std.proofs.Math.Numerals.{add-one}
use Rattle.std.proofs.lemmas.Bool.{cases_eq}
use Rattle.std.proofs.lemmas.List.{append-nil, length-append, reverse-append}
use Rattle.std.specs.Borrow.{Bor}
use Rattle.std.proofs.lemmas.Option.{get_or_from_slice_get}
use Rattle.slab.specs.Slab.{get}
use Rattle.wy_value.specs.declared.shapes.Shapes.{Shapes}
use Rattle.wy_value.specs.declared.value.Value.{Value}
use Rattle.wy_value.specs.Shapes.{named, IsShapes}
use Rattle.wy_value.specs.Datum.{Datum, Data, no_items, item, Fields, no_fields, field}
use Rattle.wy_value.specs.Datum as datum
use Rattle.wy_value.specs.declared.value.Value.TheVariants as value
use Rattle.wy_value.specs.Seen.{seen, seen_items, seen_fields}
use Rattle.wy_value.proofs.SeenLemmas.{seen_array, seen_record}
use Rattle.wy_value.specs.Values.{names_of, length_of, Rise, IsDatum, AreData, AreFields}
use Rattle.wy_heap.specs.declared.part.Part.{Part}
use Rattle.wy_heap.specs.declared.part.Part.TheVariants.{Null, Key}
use Rattle.wy_heap.specs.declared.node.Shape.{Shape}
use Rattle.wy_heap.specs.declared.node.Shape.TheVariants as shape
use Rattle.wy_heap.specs.declared.node.Node.{Node}
use Rattle.wy_heap.specs.declared.heap.Heap.{Heap}
use Rattle.wy_heap.specs.Nodes.{Form, list_form, record_form, record_of, form_of, no_form, Map, map_of, body_of, at, holds, count_of, count_at}
use Rattle.wy_heap.specs.Meaning.{data_in, Means, MeanAll, IsNode, IsSplit}
use Rattle.wy_heap.specs.Standing.{Counts, Stands, Acts}
use Rattle.wy_heap.specs.Slots.{nth}
use Rattle.wy_heap.specs.Extending.{Extends, HasNames}
use Rattle.wy_heap.specs.Importing.{Carries, Grew, OnlyOnes, kids, IsKid, front_of, rest_of, Job, job_of, jobs_of, Ready, works, LastFit, Gathers, HasKids, Finishes}
use Rattle.wy_heap.specs.Changing.{SameNodes, Adopts, Adds, Fits, More, Upholds}
use Rattle.wy_heap.proofs.CountLemmas.{held-append}
use Rattle.wy_heap.proofs.ChangeLemmas.{at-map_of, count_changed, count_others}
use Rattle.wy_heap.proofs.MeaningLemmas.{Each, means_kept, mean_all-length, means_from_node}
use Rattle.wy_heap.proofs.LeadLemmas.{reordered, counts_same, same_slots}
use Rattle.wy_heap.proofs.WriteLemmas.{added_leads, added_node, added_stays}
use Rattle.wy_heap.proofs.SlotLemmas.{held_node, node_form, split_known, record_known}
use Rattle.wy_heap.proofs.ReachLemmas.{restored}
use Rattle.wy_heap.proofs.CompareLemmas.{numbers_in}
use Rattle.wy_heap.specs.Weighing.{tree, trees}
use Rattle.wy_heap.proofs.WeighLemmas.{trees-data_in}

pub upholds_more : (base : Map) (ps others : List Part) → Upholds base others → Upholds base (ps ++ others)
upholds_more base ps others upholds k b was = omega (arith, upholds k b was, held-append k ps others)

-- ---- a larger map

Any : Part → Type 0
Any q = Unit {0}

each_any : (ps : List Part) → Each Any ps
unfolding Any
each_any [] = tt
each_any (p ∷ ps) = (tt, each_any ps)

pub means_more : (m n : Map) → More m n → (d : Datum) (q : Part) → Means m d q → Means n d q
unfolding Any
means_more m n more d q means = means_kept m n Any (λ k b safe was. (more k b was, each_any b.parts)) d q tt means

pub mean_all_more : (m n : Map) → More m n → (ds : Data) (ps : List Part) → MeanAll m ds ps → MeanAll n ds ps
mean_all_more m n more no_items ps mean = mean
mean_all_more m n more (item d ds) [] mean = mean
mean_all_more m n more (item d ds) (p ∷ ps) mean = (means_more m n more d p mean.0, mean_all_more m n more ds ps mean.1)

-- ---- carries follow each other

pub carries_trans : (a b c : Heap) (ps qs rs : List Part) → Carries a b ps qs → Carries b c qs rs → Carries a c ps rs
carries_trans a b c ps qs rs first second = record {
  counts = λ others counts. second.counts others (first.counts others counts);
  more = λ k body was. second.more k body (first.more k body was);
}

pub carries_same : (a b : Heap) (done : List Part) → SameNodes a b → Carries a b done done
carries_same a b done same = record {
  counts = λ others counts. counts_same a b (done ++ others) same counts;
  more = λ k body was. same.nodes k ∙ was;
}

-- a part that holds nothing
pub carries_scalar : (h : Heap) (done : List Part) (p : Part) → ((k : ℕ) → holds k p ≡ 0) → Carries h h done (done ++ p ∷ [])
carries_scalar h done p none = record {
  counts = λ others counts. reordered (count_at h) (map_of h) (done ++ others) ((done ++ p ∷ []) ++ others)
      (λ k. omega (arith, none k, held-append k (done ++ p ∷ []) others, held-append k done (p ∷ []), held-append k done others)) counts;
  more = λ k b was. was;
}

-- a node takes the holds of the last parts
pub carries_adopts : (a b : Heap) (lower front : List Part) (form : Form) (part : Part) → Adopts a b form front part → Carries a b (lower ++ front) (lower ++ part ∷ [])
carries_adopts a b lower front form part adopts = record {
  counts = λ others counts.
      reordered (count_at b) (map_of b) (part ∷ (lower ++ others)) ((lower ++ part ∷ []) ++ others)
      (λ k. omega (arith, held-append k (lower ++ part ∷ []) others, held-append k lower (part ∷ []), held-append k lower others))
      (adopts.counts (lower ++ others)
      (reordered (count_at a) (map_of a) ((lower ++ front) ++ others) (front ++ (lower ++ others))
      (λ k. omega (arith, held-append k (lower ++ front) others, held-append k lower front, held-append k front (lower ++ others), held-append k lower others))
      counts));
  more = adopts.more;
}

-- parts that are let go of again leave the nodes as before
pub carries_failed : (a b d : Heap) (done places : List Part) → Counts a places → Carries a b [] done → ((others : List Part) → Counts b (done ++ others) → Counts d others) → ((base : Map) (others : List Part) → Counts b (done ++ others) → Upholds base others → More base (map_of b) → More base (map_of d)) → SameNodes a d
carries_failed a b d done places counts carries frees upheld =
    let still = carries.counts places counts in
    restored a d places counts (frees places still)
    (upheld (map_of a) places still
    (λ k body was. omega (arith, counts.counted k, counts.alive k (subst IsSome (sym was) refl)))
    carries.more)

-- ---- the table grows

pub extends_trans : (t u v : Shapes) → Extends t u → Extends u v → Extends t v
extends_trans t u v first second = record {
  names = λ n x is. second.names n x (first.names n x is);
  lists = λ n x is. second.lists n x (first.lists n x is);
}

pub named_extends : (t u : Shapes) (list : List ℕ) → Extends t u → ((k : ℕ) → k < length list → get_or list k 0 < length t.names) → named u.names list ≡ named t.names list
named_extends t u [] extends within = refl
named_extends t u (n ∷ ns) extends within =
    let here = slice_get_within_some t.names n (within 0 (omega arith)) in
    let same : get_or u.names n [] ≡ get_or t.names n [] =
    get_or_from_slice_get u.names n here.0 [] (extends.names n here.0 here.1) ∙ sym (get_or_from_slice_get t.names n here.0 [] here.1) in
    let rest = named_extends t u ns extends (λ k below. within (suc k) (omega arith)) in
    cc
  where
    slice_get_within_some : (xs : List (List ℕ)) (n : ℕ) → n < length xs → (x : List ℕ) × (slice_get xs n ≡ Some x)
    slice_get_within_some [] n below = absurd (omega arith)
    slice_get_within_some (x ∷ xs) zero below = (x, refl)
    slice_get_within_some (x ∷ xs) (suc n) below = slice_get_within_some xs n (omega arith)

pub form_extends : (t u : Shapes) (s : Shape) → IsShapes t → Extends t u → (form_of t s ≡ no_form → ⊥) → form_of u s ≡ form_of t s
form_extends t u shape.Array table extends known = refl
form_extends t u (shape.Record n) table extends known =
    let list = record_known t.names (slice_get t.lists n) known in
    ap (record_of u.names) (extends.lists n list.0 list.1)
    ∙ ap record_form (named_extends t u list.0 extends (numbers_in t n list.0 table list.1))
    ∙ sym (ap (record_of t.names) list.1)

-- another table changes no node
pub tabled : (h : Heap) (t : Shapes) (places : List Part) → Counts h places → IsShapes h.shapes → Extends h.shapes t → SameNodes h (record h { shapes = t })
tabled h t places counts table extends = record {
  nodes = λ k. at-map_of (record h { shapes = t }) k ∙ same k (get h.nodes k) refl ∙ sym (at-map_of h k);
  counts = λ k. refl;
}
  where
    same : (k : ℕ) (o : Option Node) → get h.nodes k ≡ o → body_of t o ≡ body_of h.shapes o
    same k None was = refl
    same k (Some n) was =
        let is = at-map_of h k ∙ ap (body_of h.shapes) was in
        let d = counts.meant k (subst IsSome (sym is) refl) in
        let node = held_node h (Key k) k d.0 refl d.1 in
        let form = node_form h k n d.0 node was in
        ap (λ (f : Form). Some (record { form = f; parts = n.parts.items }))
        (form_extends h.shapes t n.shape table extends (λ none. split_known d.0 node.form node.data_of node.split (sym form ∙ none)))

pub grew_trans : (a b c : Heap) → Grew a b → Grew b c → Grew a c
grew_trans a b c first second = record {
  cap = second.cap ∙ first.cap;
  copies = second.copies ∙ first.copies;
  table = second.table;
  extends = extends_trans a.shapes b.shapes c.shapes first.extends second.extends;
  within = λ within. second.within (first.within within);
}

-- ---- new nodes have one holder each

pub ones_refl : (h : Heap) → OnlyOnes h h
ones_refl h k = inl refl

pub ones_same : (h n : Heap) → ((k : ℕ) → count_at n k ≡ count_at h k) → OnlyOnes h n
ones_same h n same k = inl (same k)

pub ones_trans : (a b c : Heap) → OnlyOnes a b → OnlyOnes b c → OnlyOnes a c
ones_trans a b c first second k = elim (second k) [
  | inl same ↦ elim (first k) [
    | inl was ↦ inl (same ∙ was)
    | inr new ↦ inr (new.0, same ∙ new.1)
  ]
  | inr new ↦ elim (first k) [
    | inl was ↦ inr (sym was ∙ new.0, new.1)
    | inr old ↦ absurd (omega (arith, old.1, new.0))
  ]
]

pub ones_added : (h n : Heap) (key : ℕ) (s : Shape) (parts : List Part) → Adds h n key s parts → OnlyOnes h n
ones_added h n key s parts adds k = elim (cases_eq k key) [
  | inr differ ↦ inl (count_others h n key (Some adds.node) adds.changes k differ)
  | inl same ↦ inr (
    ap (count_at h) same ∙ ap count_of adds.vacant,
    ap (count_at n) same ∙ count_changed h n key (Some adds.node) adds.changes ∙ adds.one,
  )
]

-- ---- data

pub length-seen_items : (vs : List Value) → length_of (seen_items vs) ≡ length vs
length-seen_items [] = refl
length-seen_items (v ∷ vs) = omega (arith, length-seen_items vs)

pub length-seen_fields : (fs : List (List ℕ × Value)) → length_of (data_in (seen_fields fs)) ≡ length fs
length-seen_fields [] = refl
length-seen_fields (f ∷ fs) = omega (arith, length-seen_fields fs)

pub seen_item : (vs : List Value) (i : ℕ) (v : Value) → i < length vs → get_or vs i v ≡ v → nth (seen_items vs) i ≡ seen v
seen_item [] i v below is = absurd (omega arith)
seen_item (w ∷ vs) zero v below is = ap seen is
seen_item (w ∷ vs) (suc i) v below is = seen_item vs i v (omega arith) is

pub seen_field : (fs : List (List ℕ × Value)) (i : ℕ) (f : List ℕ × Value) → i < length fs → get_or fs i f ≡ f → nth (data_in (seen_fields fs)) i ≡ seen f.1
seen_field [] i f below is = absurd (omega arith)
seen_field (g ∷ fs) zero f below is = ap (λ (x : List ℕ × Value). seen x.1) is
seen_field (g ∷ fs) (suc i) f below is = seen_field fs i f (omega arith) is

-- ---- a node of parts that were imported

pub adopted : (h room n : Heap) (key : ℕ) (s : Shape) (parts : List Part) → room.nodes.slots ≡ h.nodes.slots → room.shapes ≡ h.shapes → Adds room n key s parts → Fits (map_of h) (form_of h.shapes s) parts → Adopts h n (form_of h.shapes s) parts (Key key)
adopted h room n key s parts slots shapes adds fits =
    let same = same_slots h room slots shapes in
    let forms : form_of room.shapes s ≡ form_of h.shapes s = ap (λ (t : Shapes). form_of t s) shapes in
    let moved : (ds : Data) (ps : List Part) → MeanAll (map_of h) ds ps → MeanAll (map_of room) ds ps = mean_all_more (map_of h) (map_of room) (λ k b was. same.nodes k ∙ was) in
    let fits_room : Fits (map_of room) (form_of room.shapes s) parts = (fits.0, moved fits.0 parts fits.1, fits.2, subst (λ (f : Form). IsSplit fits.2 f fits.0) (sym forms) fits.3) in
    record {
      counts = λ others counts. (added_leads room n key s parts adds fits_room others (counts_same h room (parts ++ others) same counts)).counts;
      more = λ k b was. added_stays room n key s parts adds k b (same.nodes k ∙ was);
      node = λ ds mean. subst (λ (f : Form). IsNode (map_of n) (Key key) f ds) forms (added_node room n key s parts adds ds (moved ds parts mean));
    }

-- ---- one layer of a value

pub record_datum : (v : Value) (fs fields : List (List ℕ × Value)) → v ≡ value.Record fields → fs ≡ fields → IsDatum (seen v) → Rise (names_of (seen_fields fs)) × AreFields (seen_fields fs)
record_datum v fs fields is same datum_is =
    subst (λ (l : List (List ℕ × Value)). Rise (names_of (seen_fields l)) × AreFields (seen_fields l)) (sym same) (subst IsDatum (ap seen is ∙ seen_record fields) datum_is)

-- the form of a record that was imported
pub record_split : (t : Shapes) (n : ℕ) (fs : List (List ℕ × Value)) → HasNames t n (names_of (seen_fields fs)) → IsSplit (datum.Record (seen_fields fs)) (form_of t (shape.Record n)) (data_in (seen_fields fs))
record_split t n fs has = (ap (record_of t.names) has.1 ∙ ap record_form has.2, refl)

pub record_imported : (m : Map) (t : Shapes) (n : ℕ) (v : Value) (fs fields : List (List ℕ × Value)) (part : Part) → v ≡ value.Record fields → fs ≡ fields → HasNames t n (names_of (seen_fields fs)) → IsNode m part (form_of t (shape.Record n)) (data_in (seen_fields fs)) → Means m (seen v) part
record_imported m t n v fs fields part is same has node =
    subst (λ (d : Datum). Means m d part) (sym (ap seen is ∙ seen_record fields))
    (subst (λ (l : List (List ℕ × Value)). Means m (datum.Record (seen_fields l)) part) same
    (means_from_node m (datum.Record (seen_fields fs)) part (form_of t (shape.Record n)) (data_in (seen_fields fs)) (record_split t n fs has) node))

-- ---- the whole

pub import_acts : (a b : Heap) (part : Part) (others : List Part) → Stands a others → Carries a b [] (part ∷ []) → Grew a b → Acts a b (part ∷ []) others
import_acts a b part others stands carries grew = record {
  stands = record {
    counts = carries.counts others stands.counts;
    within = grew.within stands.within;
    some = omega (arith, grew.cap, stands.some);
    table = grew.table;
  };
  keeps = λ q d among means. means_more (map_of a) (map_of b) carries.more d q means;
}

-- ---- what is right inside a datum

pub kid_array : (v : Value) (vs items : List Value) → v ≡ value.Array items → vs ≡ items → kids (seen v) ≡ seen_items vs
kid_array v vs items is same = ap (λ (w : Value). kids (seen w)) is ∙ ap kids (seen_array items) ∙ ap seen_items (sym same)

pub kid_record : (v : Value) (fs fields : List (List ℕ × Value)) → v ≡ value.Record fields → fs ≡ fields → kids (seen v) ≡ data_in (seen_fields fs)
kid_record v fs fields is same = ap (λ (w : Value). kids (seen w)) is ∙ ap kids (seen_record fields) ∙ ap (λ (l : List (List ℕ × Value)). data_in (seen_fields l)) (sym same)

pub kid_of : (v : Value) (ds : Data) (many place most : ℕ) (r : Option (Bor Value)) → kids (seen v) ≡ ds → length_of ds ≡ many → MatchOption r (many ≤ place) (λ kid. (place < most) × (place < many) × (nth ds place ≡ seen kid.now)) → MatchOption r (length_of (kids (seen v)) ≤ place) (λ kid. (place < most) × IsKid (seen v) place (seen kid.now))
kid_of v ds many place most None is long none = omega (arith, none, long, ap length_of is)
kid_of v ds many place most (Some kid) is long some = (
  some.0,
  record {
    below = omega (arith, some.1, long, ap length_of is);
    is = ap (λ (l : Data). nth l place) is ∙ some.2;
  },
)

fields_data : (fs : Fields) → AreFields fs → AreData (data_in fs)
fields_data no_fields all = tt
fields_data (field n d fs) all = (all.1, fields_data fs all.2)

kids_data : (d : Datum) → IsDatum d → AreData (kids d)
kids_data datum.Null is = tt
kids_data (datum.Truth b) is = tt
kids_data (datum.Whole z) is = tt
kids_data (datum.Array items) is = is
kids_data (datum.Record fs) is = fields_data fs is.1

nth_datum : (ds : Data) (i : ℕ) → i < length_of ds → AreData ds → IsDatum (nth ds i)
nth_datum no_items i below all = absurd (omega arith)
nth_datum (item d ds) zero below all = all.0
nth_datum (item d ds) (suc i) below all = nth_datum ds i (omega arith) all.1

trees-kids : (d : Datum) → tree d ≡ 1 + trees (kids d)
trees-kids datum.Null = refl
trees-kids (datum.Truth b) = refl
trees-kids (datum.Whole z) = refl
trees-kids (datum.Array items) = refl
trees-kids (datum.Record fs) = omega (arith, trees-data_in fs)

trees-rest : (ds : Data) (i : ℕ) → i < length_of ds → trees (rest_of i ds) ≡ tree (nth ds i) + trees (rest_of (suc i) ds)
trees-rest no_items i below = absurd (omega arith)
trees-rest (item d ds) zero below = refl
trees-rest (item d ds) (suc i) below = trees-rest ds i (omega arith)

mean_front_more : (m : Map) (ds : Data) (i : ℕ) (ps : List Part) (p : Part) → i < length_of ds → MeanAll m (front_of i ds) ps → Means m (nth ds i) p → MeanAll m (front_of (suc i) ds) (ps ++ p ∷ [])
mean_front_more m no_items i ps p below mean means = absurd (omega arith)
mean_front_more m (item d ds) zero [] p below mean means = (means, refl)
mean_front_more m (item d ds) zero (q ∷ qs) p below mean means = absurd (cc)
mean_front_more m (item d ds) (suc i) [] p below mean means = absurd mean
mean_front_more m (item d ds) (suc i) (q ∷ qs) p below mean means = (mean.0, mean_front_more m ds i qs p (omega arith) mean.1 means)

front-all : (ds : Data) (i : ℕ) → length_of ds ≤ i → front_of i ds ≡ ds
front-all no_items zero past = refl
front-all no_items (suc i) past = refl
front-all (item d ds) zero past = absurd (omega arith)
front-all (item d ds) (suc i) past = ap (item d) (front-all ds i (omega arith))

-- ---- what is left to do

-- the next datum in the first job is begun
pub ready_kid : (m : Map) (d u w : Datum) (i : ℕ) (jobs : List Job) (done : List Part) → IsKid u i w → Ready m d ((u, i) ∷ jobs) done → Ready m d ((w, 0) ∷ (u, i + 1) ∷ jobs) done
ready_kid m d u w i jobs done kid ready = record {
  lower = done;
  front = [];
  is = sym (append-nil done);
  many = omega arith;
  mean = refl;
  is_datum = subst IsDatum kid.is (nth_datum (kids u) i kid.below (kids_data u ready.is_datum));
  goes_on = λ n part more means. record {
    lower = ready.lower;
    front = ready.front ++ part ∷ [];
    is = ap (λ (l : List Part). l ++ part ∷ []) ready.is ∙ append_assoc ready.lower ready.front (part ∷ []);
    many = omega (arith, kid.below);
    mean = subst (λ (j : ℕ). MeanAll n (front_of j (kids u)) (ready.front ++ part ∷ [])) (sym (add-one i))
        (mean_front_more n (kids u) i ready.front part kid.below (mean_all_more m n more (front_of i (kids u)) ready.front ready.mean) (subst (λ (e : Datum). Means n e part) (sym kid.is) means));
    is_datum = ready.is_datum;
    goes_on = λ k q more_still means_whole. ready.goes_on k q (λ key b was. more_still key b (more key b was)) means_whole;
  };
}

pub less_kid : (u w : Datum) (i : ℕ) (jobs : List Job) → IsKid u i w → works ((w, 0) ∷ (u, i + 1) ∷ jobs) < works ((u, i) ∷ jobs)
less_kid u w i jobs kid =
    omega (arith, trees-kids w, trees-rest (kids u) i kid.below, ap tree kid.is, ap (λ (j : ℕ). trees (rest_of j (kids u))) (add-one i))

-- all that is in the first job's datum is done
pub ready_kids : (m : Map) (d u : Datum) (i : ℕ) (jobs : List Job) (done : List Part) → length_of (kids u) ≤ i → Ready m d ((u, i) ∷ jobs) done → HasKids m u done i
ready_kids m d u i jobs done past ready =
    let all : MeanAll m (kids u) ready.front = subst (λ (l : Data). MeanAll m l ready.front) (front-all (kids u) i past) ready.mean in
    (ready.lower, ready.front, ready.is, omega (arith, mean_all-length m (kids u) ready.front all, ready.many), all)

pub ready_finished : (m n : Map) (d u : Datum) (i : ℕ) (jobs : List Job) (done after : List Part) → length_of (kids u) ≤ i → More m n → Finishes m n u done after i → Ready m d ((u, i) ∷ jobs) done → Ready n d jobs after
ready_finished m n d u i jobs done after past more finishes ready =
    let all : MeanAll m (kids u) ready.front = subst (λ (l : Data). MeanAll m l ready.front) (front-all (kids u) i past) ready.mean in
    let long : length ready.front ≡ i = omega (arith, mean_all-length m (kids u) ready.front all, ready.many) in
    let made = finishes ready.lower ready.front ready.is long all in
    subst (Ready n d jobs) (sym made.1) (ready.goes_on n made.0 more made.2)

pub jobs-push : (todo : List (Bor Value × ℕ)) (job : Bor Value × ℕ) → jobs_of (todo ++ job ∷ []) ≡ job_of job ∷ jobs_of todo
jobs-push todo job = ap (map job_of) (reverse-append todo (job ∷ []))

-- ---- the end of a datum

pub array_fits : (m : Map) (v : Value) (done : List Part) (many : ℕ) (items : List Value) → v ≡ value.Array items → HasKids m (seen v) done many → LastFit m list_form done many
array_fits m v done many items is has =
    (has.0, has.1, has.2, has.3, (kids (seen v), has.4, datum.Array (kids (seen v)), (refl, refl)))

pub record_fits : (m : Map) (t : Shapes) (n : ℕ) (v : Value) (done : List Part) (many : ℕ) (fs fields : List (List ℕ × Value)) → v ≡ value.Record fields → fs ≡ fields → HasNames t n (names_of (seen_fields fs)) → HasKids m (seen v) done many → LastFit m (form_of t (shape.Record n)) done many
record_fits m t n v done many fs fields is same names has =
    let inside : kids (seen v) ≡ data_in (seen_fields fs) = kid_record v fs fields is same in
    (has.0, has.1, has.2, has.3, (data_in (seen_fields fs), subst (λ (l : Data). MeanAll m l has.1) inside has.4, datum.Record (seen_fields fs), record_split t n fs names))

pub record_finished : (a b : Heap) (t : Shapes) (n : ℕ) (v : Value) (before after : List Part) (many : ℕ) (fs fields : List (List ℕ × Value)) → v ≡ value.Record fields → fs ≡ fields → HasNames t n (names_of (seen_fields fs)) → Gathers a b (form_of t (shape.Record n)) before after many → Finishes (map_of a) (map_of b) (seen v) before after many
record_finished a b t n v before after many fs fields is same names gathers lower front whole long mean =
    let made = gathers lower front whole long in
    let inside : kids (seen v) ≡ data_in (seen_fields fs) = kid_record v fs fields is same in
    (made.0, made.1, record_imported (map_of b) t n v fs fields made.0 is same names (made.2.node (data_in (seen_fields fs)) (subst (λ (l : Data). MeanAll (map_of a) l front) inside mean)))

-- the same nodes have the same parts last
pub has_kids_same : (a b : Map) (d : Datum) (done : List Part) (many : ℕ) → ((k : ℕ) → at b k ≡ at a k) → HasKids a d done many → HasKids b d done many
has_kids_same a b d done many same has =
    (has.0, has.1, has.2, has.3, mean_all_more a b (λ k body was. same k ∙ was) (kids d) has.1 has.4)

-- the heap in which the table grew finishes as the old one does
pub finishes_same : (a b c : Map) (d : Datum) (before after : List Part) (many : ℕ) → ((k : ℕ) → at b k ≡ at a k) → Finishes b c d before after many → Finishes a c d before after many
finishes_same a b c d before after many same finishes lower front whole long mean =
    finishes lower front whole long (mean_all_more a b (λ k body was. same k ∙ was) (kids d) front mean)

-- a node that takes the last parts
pub gathered : (h room n : Heap) (key : ℕ) (s : Shape) (before after rest parts : List Part) (many : ℕ) → room.nodes.slots ≡ h.nodes.slots → room.shapes ≡ h.shapes → many ≤ length before → rest ≡ take (length before - many) before → parts ≡ drop (length before - many) before → Adds room n key s parts → LastFit (map_of h) (form_of h.shapes s) before many → after ≡ rest ++ Key key ∷ [] → Gathers h n (form_of h.shapes s) before after many
gathered h room n key s before after rest parts many slots shapes enough rest_is parts_are adds fit pushed lower front whole long =
    let cut : length before - many ≡ length lower = omega (arith, ap length whole, length-append lower front, long) in
    let low : rest ≡ lower = rest_is ∙ ap (λ (i : ℕ). take i before) cut ∙ ap (take (length lower)) whole ∙ take-append_seam lower front in
    let high : parts ≡ front = parts_are ∙ ap (λ (i : ℕ). drop i before) cut ∙ ap (drop (length lower)) whole ∙ drop-append_seam lower front in
    let fit_cut : length before - many ≡ length fit.0 = omega (arith, ap length fit.2, length-append fit.0 fit.1, fit.3) in
    let fit_high : parts ≡ fit.1 = parts_are ∙ ap (λ (i : ℕ). drop i before) fit_cut ∙ ap (drop (length fit.0)) fit.2 ∙ drop-append_seam fit.0 fit.1 in
    let fits : Fits (map_of h) (form_of h.shapes s) parts = subst (Fits (map_of h) (form_of h.shapes s)) (sym fit_high) fit.4 in (
      Key key,
      pushed ∙ ap (λ (l : List Part). l ++ Key key ∷ []) low,
      subst (λ (l : List Part). Adopts h n (form_of h.shapes s) l (Key key)) high (adopted h room n key s parts slots shapes adds fits),
    )

pub gather_carries : (h n : Heap) (form : Form) (before after : List Part) (many : ℕ) → Gathers h n form before after many → LastFit (map_of h) form before many → Carries h n before after
gather_carries h n form before after many gathers fit =
    let made = gathers fit.0 fit.1 fit.2 fit.3 in
    subst (λ (l : List Part). Carries h n l after) (sym fit.2)
    (subst (λ (l : List Part). Carries h n (fit.0 ++ fit.1) l) (sym made.1) (carries_adopts h n fit.0 fit.1 form made.0 made.2))
