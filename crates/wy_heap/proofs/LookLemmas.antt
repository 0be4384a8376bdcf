-- The parts of a node are looked at, one after the other.
use Rattle.std.proofs.Common.{◌≡◌, ◌≢◌, inl, inr, ℕ, zero, suc, ◌+◌, ◌≤◌, ◌<◌, List, [], ◌∷◌, ◌++◌, set, get_or, take, drop, length, Option, Some, None, IsSome, refl, sym, ◌∙◌, ap, subst, arith, length-set}
use Rattle.std.proofs.lemmas.Bool.{cases_eq}
use Rattle.std.proofs.lemmas.List.{get_or-set_other, take_all, drop_more, take_more}
use Rattle.wy_value.specs.Datum.{Datum, Data, no_items, item}
use Rattle.wy_heap.specs.declared.part.Part.{Part}
use Rattle.wy_heap.specs.declared.part.Part.TheVariants.{Null, Key}
use Rattle.wy_heap.specs.declared.heap.Heap.{Heap}
use Rattle.wy_heap.specs.Nodes.{Form, Body, Map, map_of, at, holds, held, slot_holds, count_at, parts_in}
use Rattle.wy_heap.specs.Meaning.{Means, MeanAll, IsSplit, IsMeant}
use Rattle.wy_heap.specs.Standing.{Counts, SameTable}
use Rattle.wy_heap.specs.Slots.{part_of}
use Rattle.wy_heap.specs.Weighing.{total, weight}
use Rattle.wy_heap.specs.Freeing.{times}
use Rattle.wy_heap.specs.Changing.{More}
use Rattle.wy_heap.specs.Copying.{CopiesAsMany}
use Rattle.wy_heap.specs.Settling.{owing, loads, Settles, Splits, SettlesPlace, AreTodo, Lacks, SettlesNode}
use Rattle.wy_heap.proofs.CountLemmas.{slot-le-inner, inner_part, holds_one, holds_other, holds_is, holds-get_or}
use Rattle.wy_heap.proofs.ChangeLemmas.{count_none, not_there, some_or_none}
use Rattle.wy_heap.proofs.MeaningLemmas.{means_from_node, same_form}
use Rattle.wy_heap.proofs.SlotLemmas.{held_node}
use Rattle.wy_heap.proofs.WeighLemmas.{tree-split, weight-tree, total-trees}
use Rattle.wy_heap.proofs.SizeLemmas.{copies_none, copies_trans}
use Rattle.wy_heap.proofs.SettleLemmas.{loads-append, loads_same, owing-append, owing_same, settles_refl, settles_trans, splits_spares, times-append, times_one, times_other}

-- ---- the parts of a node, one after the other

pub record Looked (h s : Heap) (node place many : ℕ) (before todo : List ℕ) : Type 0 where
  pub settles : Settles h s
  pub spares : (base : Map) → More base (map_of h) → at base node ≡ None → Lacks base before → More base (map_of s) × Lacks base todo
  pub copies : CopiesAsMany h s
  pub kept : SameTable h s
  pub here : IsSome (at (map_of s) node)
  pub long : length (parts_in (at (map_of s) node)) ≡ many
  pub first_long : length (parts_in (at (map_of h) node)) ≡ many
  pub there : (k : ℕ) → 1 ≤ times k todo → IsSome (at (map_of s) k)
  pub once : (k : ℕ) → times k todo ≤ 1
  pub apart : times node todo ≡ 0
  pub rest : (i : ℕ) → place ≤ i → get_or (parts_in (at (map_of s) node)) i Null ≡ get_or (parts_in (at (map_of h) node)) i Null
  pub over : ((k : ℕ) → count_at h k ≤ h.cap + slot_holds k (at (map_of h) node) + owing k (map_of h) before) → (k : ℕ) → count_at s k ≤ h.cap + held k (drop place (parts_in (at (map_of s) node))) + owing k (map_of s) todo
  pub load : loads (map_of s) todo ≤ loads (map_of h) before + total (weight (map_of h)) (take place (parts_in (at (map_of h) node)))

parts_of_slot : (k : ℕ) (o : Option Body) → slot_holds k o ≡ held k (parts_in o)
parts_of_slot k None = refl
parts_of_slot k (Some b) = refl

pub looked_first : (h : Heap) (node many : ℕ) (before : List ℕ) → IsSome (at (map_of h) node) → length (parts_in (at (map_of h) node)) ≡ many → AreTodo (map_of h) node before → Looked h h node 0 many before before
looked_first h node many before here long todo = record {
  settles = settles_refl h;
  spares = λ base more none lacks. (more, lacks);
  copies = copies_none h;
  kept = (refl, refl);
  here = here;
  long = long;
  first_long = long;
  there = todo.there;
  once = todo.once;
  apart = todo.apart;
  rest = λ i from. refl;
  over = λ most k. omega (arith, most k, parts_of_slot k (at (map_of h) node));
  load = omega arith;
}

held-drop : (k : ℕ) (ps : List Part) (i : ℕ) → i < length ps → held k (drop i ps) ≡ holds k (get_or ps i Null) + held k (drop (i + 1) ps)
held-drop k ps i below = ap (held k) (drop_more ps i Null below)

total-take : (f : Part → ℕ) (ps : List Part) (i : ℕ) → i < length ps → total f (take (i + 1) ps) ≡ total f (take i ps) + f (get_or ps i Null)
total-take f ps i below = ap (total f) (take_more ps i Null below) ∙ total-append f (take i ps) (get_or ps i Null)
  where
    total-append : (g : Part → ℕ) (xs : List Part) (x : Part) → total g (xs ++ x ∷ []) ≡ total g xs + g x
    total-append g [] x = omega arith
    total-append g (y ∷ ys) x = omega (arith, total-append g ys x)

drop-set : (ps : List Part) (i j : ℕ) (q : Part) → i < j → drop j (set ps i q) ≡ drop j ps
drop-set [] i j q below = refl
drop-set (p ∷ ps) zero zero q below = absurd (omega arith)
drop-set (p ∷ ps) zero (suc j) q below = refl
drop-set (p ∷ ps) (suc i) zero q below = absurd (omega arith)
drop-set (p ∷ ps) (suc i) (suc j) q below = drop-set ps i j q (omega arith)

part_is : (o : Option Body) (i : ℕ) → part_of o i ≡ get_or (parts_in o) i Null
part_is None i = refl
part_is (Some b) i = refl

pub looked_none : (h s : Heap) (node place many : ℕ) (before todo : List ℕ) → Looked h s node place many before todo → place < many → ((k : ℕ) → part_of (at (map_of s) node) place ≡ Key k → count_at s k ≤ h.cap) → Looked h s node (place + 1) many before todo
looked_none h s node place many before todo looked below few = record {
  settles = looked.settles;
  spares = looked.spares;
  copies = looked.copies;
  kept = looked.kept;
  here = looked.here;
  long = looked.long;
  first_long = looked.first_long;
  there = looked.there;
  once = looked.once;
  apart = looked.apart;
  rest = λ i from. looked.rest i (omega (arith, from));
  over = λ most k.
      let ps = parts_in (at (map_of s) node) in
      let dropped = held-drop k ps place (omega (arith, below, looked.long)) in
      elim (cases_eq (holds k (get_or ps place Null)) 0) [
        | inl none ↦ omega (arith, looked.over most k, dropped, none)
        | inr some ↦ omega (arith, few k (part_is (at (map_of s) node) place ∙ holds_is k (get_or ps place Null) (omega (arith, some))))
      ];
  load = omega (arith, looked.load, total-take (weight (map_of h)) (parts_in (at (map_of h) node)) place (omega (arith, below, looked.first_long)));
}

mean_all_keeps : (m n : Map) → ((q : Part) (d : Datum) → Means m d q → Means n d q) → (ds : Data) (ps : List Part) → MeanAll m ds ps → MeanAll n ds ps
mean_all_keeps m n keeps no_items ps mean = mean
mean_all_keeps m n keeps (item d ds) [] mean = mean
mean_all_keeps m n keeps (item d ds) (p ∷ ps) mean = (keeps p d mean.0, mean_all_keeps m n keeps ds ps mean.1)

module _ (h s t : Heap) (node place many : ℕ) (before todo : List ℕ) (looked : Looked h s node place many before todo) (below : place < many) (key copy : ℕ) (splits : Splits s t node place key copy) (kept : SameTable s t) (some : 1 ≤ h.cap) (places : List Part) (counts0 : Counts h places) where
  counts_s : Counts s places
  counts_s = looked.settles.counts places counts0

  parts_s : parts_in (at (map_of s) node) ≡ splits.body.parts
  parts_s = ap parts_in splits.was

  copy_free : (k : ℕ) → IsSome (at (map_of s) k) → k ≢ copy
  copy_free k is same = not_there (at (map_of s) k) (ap (at (map_of s)) same ∙ splits.vacant) is

  in_todo : (k : ℕ) → 1 ≤ times k todo → at (map_of t) k ≡ at (map_of s) k
  in_todo k here = splits.others k (λ e. omega (arith, here, looked.apart, ap (λ (i : ℕ). times i todo) e)) (copy_free k (looked.there k here))

  copy_count : count_at s copy ≡ 0
  copy_count = count_none s copy splits.vacant

  copy_held : held copy splits.key_body.parts ≡ 0
  copy_held = elim (cases_eq (held copy splits.key_body.parts) 0) [
    | inl none ↦ none
    | inr more ↦ absurd (omega (arith, counts_s.counted copy, copy_count, inner_part (map_of s) key copy splits.key_body splits.key_was (omega (arith, more))))
  ]

  owing_t : (k : ℕ) → owing k (map_of t) (todo ++ copy ∷ []) ≡ owing k (map_of s) todo + held k splits.key_body.parts
  owing_t k = omega (arith, owing-append k (map_of t) todo (copy ∷ []), owing_same k (map_of s) (map_of t) todo in_todo, ap (slot_holds k) splits.copy_is)

  dropped_t : (k : ℕ) → held k (drop (place + 1) (parts_in (at (map_of t) node))) ≡ held k (drop (place + 1) splits.body.parts)
  dropped_t k = ap (λ (o : Option Body). held k (drop (place + 1) (parts_in o))) splits.is ∙ ap (held k) (drop-set splits.body.parts place (place + 1) (Key copy) (omega arith))

  -- the copy is as large as the part that was there in the beginning
  copy_weight : weight (map_of t) (Key copy) ≡ weight (map_of h) (get_or (parts_in (at (map_of h) node)) place Null)
  copy_weight =
      let part : get_or (parts_in (at (map_of h) node)) place Null ≡ Key key = sym (looked.rest place (omega arith)) ∙ ap (λ (ps : List Part). get_or ps place Null) parts_s ∙ splits.part in
      let holding : 1 ≤ slot_holds key (at (map_of h) node) = omega (arith, parts_of_slot key (at (map_of h) node), holds-get_or key (parts_in (at (map_of h) node)) place, ap (holds key) part, holds_one key) in
      let first = counts0.meant key (counts0.there key (omega (arith, counts0.counted key, slot-le-inner key (map_of h) node, holding))) in
      let now = looked.settles.keeps (Key key) first.0 first.1 in
      let node_is = held_node s (Key key) key first.0 refl now in
      let same : Some splits.key_body ≡ Some (record { form = node_is.form; parts = node_is.parts }) = sym splits.key_was ∙ node_is.is in
      let mean = subst (MeanAll (map_of s) node_is.data_of) (sym (ap parts_in same)) node_is.mean in
      let value : Means (map_of t) first.0 (Key copy) = means_from_node (map_of t) first.0 (Key copy) splits.key_body.form node_is.data_of
      (subst (λ (f : Form). IsSplit first.0 f node_is.data_of) (sym (same_form splits.key_body (record { form = node_is.form; parts = node_is.parts }) same)) node_is.split)
      (record {
        key = copy;
        is_key = refl;
        parts = splits.key_body.parts;
        is_node = splits.copy_is;
        pass_all = mean_all_keeps (map_of s) (map_of t) splits.settles.keeps node_is.data_of splits.key_body.parts mean;
      }) in
      omega (arith, weight-tree (map_of t) first.0 (Key copy) value, weight-tree (map_of h) first.0 (Key key) first.1, ap (weight (map_of h)) part)

  pub looked_split : Looked h t node (place + 1) many before (todo ++ copy ∷ [])
  looked_split = record {
    settles = settles_trans h s t looked.settles splits.settles;
    spares = λ base more none lacks.
        let one = looked.spares base more none lacks in (
          splits_spares s t node place key copy splits base one.0 none,
          λ k in_list. elim (cases_eq k copy) [
            | inl same ↦ elim (some_or_none (at base k)) [
              | inr gone ↦ gone
              | inl found ↦ absurd (let is = one.0 k found.0 found.1 in let gone : at (map_of s) k ≡ None = ap (at (map_of s)) same ∙ splits.vacant in cc)
            ]
            | inr differ ↦ one.1 k (omega (arith, in_list, times-append k todo (copy ∷ []), times_other k copy (λ e. differ (sym e))))
          ],
        );
    copies = copies_trans h s t looked.copies splits.copies;
    kept = (kept.0 ∙ looked.kept.0, kept.1 ∙ looked.kept.1);
    here = subst IsSome (sym splits.is) refl;
    long = ap length (ap parts_in splits.is) ∙ length-set splits.body.parts place (Key copy) ∙ sym (ap length parts_s) ∙ looked.long;
    first_long = looked.first_long;
    there = λ k in_list. elim (cases_eq k copy) [
      | inl same ↦ subst IsSome (sym (ap (at (map_of t)) same ∙ splits.copy_is)) refl
      | inr differ ↦
          let here : 1 ≤ times k todo = omega (arith, in_list, times-append k todo (copy ∷ []), times_other k copy (λ e. differ (sym e))) in
          subst IsSome (sym (in_todo k here)) (looked.there k here)
    ];
    once = λ k. elim (cases_eq k copy) [
      | inl same ↦ elim (cases_eq (times k todo) 0) [
        | inl none ↦ omega (arith, none, times-append k todo (copy ∷ []), ap (λ (i : ℕ). times k (i ∷ [])) (sym same), times_one k)
        | inr more ↦ absurd (copy_free k (looked.there k (omega (arith, more))) same)
      ]
      | inr differ ↦ omega (arith, looked.once k, times-append k todo (copy ∷ []), times_other k copy (λ e. differ (sym e)))
    ];
    apart = omega (arith, looked.apart, times-append node todo (copy ∷ []), times_other node copy (λ e. copy_free node looked.here (sym e)));
    rest = λ i from.
        let differ : i ≢ place = omega (arith, from) in
        ap (λ (o : Option Body). get_or (parts_in o) i Null) splits.is ∙ get_or-set_other splits.body.parts place i (Key copy) Null differ
        ∙ ap (λ (ps : List Part). get_or ps i Null) (sym parts_s) ∙ looked.rest i (omega (arith, from));
    over = λ most k.
        let dropped = held-drop k splits.body.parts place splits.within in
        let before_k = looked.over most k in
        let parts = ap (λ (ps : List Part). held k (drop place ps)) parts_s in
        elim (cases_eq k copy) [
          | inl same ↦ omega (arith, splits.counts k, ap (count_at s) same, copy_count, ap (λ (i : ℕ). held i splits.key_body.parts) same, copy_held, ap (λ (i : ℕ). holds i (Key copy)) same, holds_one copy, some)
          | inr differ ↦ omega (arith, splits.counts k, before_k, parts, dropped, ap (holds k) splits.part, dropped_t k, owing_t k, holds_other copy k (λ e. differ (sym e)))
        ];
    load =
        omega (
          arith,
          looked.load,
          total-take (weight (map_of h)) (parts_in (at (map_of h) node)) place (omega (arith, below, looked.first_long)),
          loads-append (map_of t) todo (copy ∷ []),
          copy_weight,
          loads_same (map_of s) (map_of t) todo (λ j in_list. counts_s.meant j (looked.there j in_list)) splits.settles.keeps,
        );
  }

-- a turn
pub looked_next : (h s t : Heap) (node place many : ℕ) (before todo after : List ℕ) → Looked h s node place many before todo → place < many → SettlesPlace s.cap s t node place todo after → SameTable s t → 1 ≤ h.cap → (places : List Part) → Counts h places → Looked h t node (place + 1) many before after
looked_next h s t node place many before todo after looked below (inl none) kept some places counts =
    subst (λ (x : Heap). Looked h x node (place + 1) many before after) (sym none.0)
    (subst (λ (l : List ℕ). Looked h s node (place + 1) many before l) (sym none.1)
    (looked_none h s node place many before todo looked below (λ k is. omega (arith, none.2 k is, looked.kept.0))))
looked_next h s t node place many before todo after looked below (inr (key, copy, splits, is)) kept some places counts =
    subst (λ (l : List ℕ). Looked h t node (place + 1) many before l) (sym is)
    (looked_split h s t node place many before todo looked below key copy splits kept some places counts)

drop_past : (k : ℕ) (ps : List Part) (i : ℕ) → length ps ≤ i → held k (drop i ps) ≡ 0
drop_past k [] zero past = refl
drop_past k [] (suc i) past = refl
drop_past k (p ∷ ps) zero past = absurd (omega arith)
drop_past k (p ∷ ps) (suc i) past = drop_past k ps i (omega arith)

-- all parts were looked at
pub looked_all : (h s : Heap) (node place many : ℕ) (before todo : List ℕ) → Looked h s node place many before todo → many ≤ place → IsMeant (map_of h) (Key node) → SettlesNode h.cap h s node before todo
looked_all h s node place many before todo looked past meant =
    let is = held_node h (Key node) node meant.0 refl meant.1 in
    let parts : parts_in (at (map_of h) node) ≡ is.parts = ap parts_in is.is in
    let all : take place (parts_in (at (map_of h) node)) ≡ parts_in (at (map_of h) node) = take_all place (parts_in (at (map_of h) node)) (omega (arith, past, looked.first_long)) in
    record {
      copies = looked.copies;
      there = looked.there;
      once = looked.once;
      lacks = λ base more none lacks. (looked.spares base more none lacks).1;
      over = λ most k. omega (arith, looked.over most k, drop_past k (parts_in (at (map_of s) node)) place (omega (arith, past, looked.long)));
      less = omega (
        arith,
        looked.load,
        ap (total (weight (map_of h))) all,
        ap (total (weight (map_of h))) parts,
        weight-tree (map_of h) meant.0 (Key node) meant.1,
        tree-split meant.0 is.form is.data_of is.split,
        total-trees (map_of h) is.data_of is.parts is.mean,
      );
    }
