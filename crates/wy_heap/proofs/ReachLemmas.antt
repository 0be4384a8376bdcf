-- Each node of a heap is reached from the places, and so a heap is known by its places and old nodes.
use Rattle.std.proofs.Common.{◌≡◌, inl, inr, ℕ, zero, suc, ◌+◌, ◌≤◌, ◌<◌, List, [], ◌∷◌, length, Option, Some, None, IsSome, refl, sym, ◌∙◌, ap, subst, arith}
use Rattle.std.proofs.lemmas.Bool.{cases_eq}
use Rattle.wy_value.specs.Datum.{Datum, Data, no_items, item}
use Rattle.wy_heap.specs.declared.part.Part.{Part}
use Rattle.wy_heap.specs.declared.part.Part.TheVariants.{Key}
use Rattle.wy_heap.specs.declared.heap.Heap.{Heap}
use Rattle.wy_heap.specs.Nodes.{Body, Map, map_of, at, holds, held, slot_holds, inner}
use Rattle.wy_heap.specs.Meaning.{Means, MeanAll}
use Rattle.wy_heap.specs.Standing.{Counts}
use Rattle.wy_heap.specs.Weighing.{weight, tree, trees}
use Rattle.wy_heap.specs.Reaching.{Reach, root, part}
use Rattle.wy_heap.specs.Changing.{SameNodes, More}
use Rattle.wy_heap.proofs.CountLemmas.{holds_is, inner_part, inner_same}
use Rattle.wy_heap.proofs.ChangeLemmas.{some_or_none, not_there}
use Rattle.wy_heap.proofs.MeaningLemmas.{means_unique}
use Rattle.wy_heap.proofs.WeighLemmas.{weight-tree, tree-split}
use Rattle.wy_heap.proofs.SlotLemmas.{held_node}

-- a slot that holds the key
record Holder (m : Map) (k : ℕ) : Type 0 where
  pub key : ℕ
  pub body : Body
  pub is : at m key ≡ Some body
  pub some : 1 ≤ held k body.parts

further : (c : Option Body) (cs : Map) (k : ℕ) → Holder cs k → Holder (c ∷ cs) k
further c cs k h = record { key = suc h.key; body = h.body; is = h.is; some = h.some }

holder : (m : Map) (k : ℕ) → 1 ≤ inner k m → Holder m k
holder [] k some = absurd (omega arith)
holder (None ∷ cs) k some = further None cs k (holder cs k (omega arith))
holder (Some b ∷ cs) k some = elim (cases_eq (held k b.parts) 0) [
  | inl none ↦ further (Some b) cs k (holder cs k (omega arith))
  | inr more ↦ record { key = 0; body = b; is = refl; some = omega (arith, more) }
]

-- the sum over all keys below a number
upto : ℕ → (ℕ → ℕ) → ℕ
upto zero f = 0
upto (suc n) f = upto n f + f n

upto_more : (n : ℕ) (f : ℕ → ℕ) (k : ℕ) → k < n → f k ≤ upto n f
unfolding upto
upto_more zero f k below = absurd (omega arith)
upto_more (suc n) f k below = elim (cases_eq k n) [
  | inl same ↦ omega (arith, ap f same)
  | inr differ ↦ omega (arith, upto_more n f k (omega (arith, differ)))
]

in_map : (m : Map) (k : ℕ) → IsSome (at m k) → k < length m
in_map [] k is = absurd (cc)
in_map (c ∷ cs) zero is = omega arith
in_map (c ∷ cs) (suc k) is = omega (arith, in_map cs k is)

bound : Map → ℕ
bound m = upto (length m) (λ k. weight m (Key k))

-- a part's datum is smaller
smaller : (m : Map) (ds : Data) (ps : List Part) (k : ℕ) (d : Datum) → MeanAll m ds ps → 1 ≤ held k ps → Means m d (Key k) → tree d ≤ trees ds
smaller m no_items [] k d mean some means = absurd (omega arith)
smaller m no_items (p ∷ ps) k d mean some means = absurd (cc)
smaller m (item e es) [] k d mean some means = absurd mean
smaller m (item e es) (p ∷ ps) k d mean some means = elim (cases_eq (holds k p) 0) [
  | inl none ↦ omega (arith, smaller m es ps k d mean.1 (omega arith) means)
  | inr more ↦
      let is = holds_is k p (omega (arith, more)) in
      let same = ap tree (means_unique m e d (Key k) (subst (Means m e) is mean.0) means) in
      omega (arith, same)
]

above : (h : Heap) (j k : ℕ) (b : Body) (w d : Datum) → at (map_of h) j ≡ Some b → Means (map_of h) w (Key j) → 1 ≤ held k b.parts → Means (map_of h) d (Key k) → tree d < tree w
above h j k b w d is means some below =
    let node = held_node h (Key j) j w refl means in
    let same : Some b ≡ Some (record { form = node.form; parts = node.parts }) = sym is ∙ node.is in
    omega (
      arith,
      tree-split w node.form node.data_of node.split,
      smaller (map_of h) node.data_of node.parts k d node.mean (subst (λ (o : Option Body). 1 ≤ slot_holds k o) same some) below,
    )

reached : (h : Heap) (places : List Part) → Counts h places → (n k : ℕ) (d : Datum) → Means (map_of h) d (Key k) → IsSome (at (map_of h) k) → bound (map_of h) < tree d + n → Reach (map_of h) places k
unfolding bound
reached h places counts zero k d means is far =
    absurd (omega (arith, far, weight-tree (map_of h) d (Key k) means, upto_more (length (map_of h)) (λ (i : ℕ). weight (map_of h) (Key i)) k (in_map (map_of h) k is)))
reached h places counts (suc n) k d means is far =
    elim (cases_eq (held k places) 0) [
      | inl none ↦
          let holding = holder (map_of h) k (omega (arith, counts.counted k, counts.alive k is)) in
          let there : IsSome (at (map_of h) holding.key) = subst IsSome (sym holding.is) refl in
          let w = counts.meant holding.key there in
          part holding.key k holding.body (reached h places counts n holding.key w.0 w.1 there (omega (arith, far, above h holding.key k holding.body w.0 d holding.is w.1 holding.some means))) holding.is holding.some
      | inr more ↦ root k (omega (arith, more))
    ]

-- nothing dead is kept
pub all_reached : (h : Heap) (places : List Part) → Counts h places → (k : ℕ) → IsSome (at (map_of h) k) → Reach (map_of h) places k
all_reached h places counts k is =
    let d = counts.meant k is in
    reached h places counts (suc (bound (map_of h))) k d.0 d.1 is (omega arith)

-- what the places reach in a map that has all old nodes is an old node
pub reached_old : (h n : Heap) (places : List Part) → Counts h places → More (map_of h) (map_of n) → (k : ℕ) → Reach (map_of n) places k → IsSome (at (map_of h) k)
reached_old h n places counts more k (root _ some) = counts.there k (omega (arith, counts.counted k, some))
reached_old h n places counts more k (part j _ b reach is some) =
    let was = reached_old h n places counts more j reach in
    elim (some_or_none (at (map_of h) j)) [
      | inr none ↦ absurd (not_there (at (map_of h) j) none was)
      | inl found ↦
          let same : Some found.0 ≡ Some b = sym (more j found.0 found.1) ∙ is in
          counts.there k (omega (arith, counts.counted k, inner_part (map_of h) j k found.0 found.1 (subst (λ (o : Option Body). 1 ≤ slot_holds k o) (sym same) some)))
    ]

-- a heap with the same places that has all old nodes is as before
pub restored : (h n : Heap) (places : List Part) → Counts h places → Counts n places → More (map_of h) (map_of n) → SameNodes h n
restored h n places first second more =
    let nodes : (k : ℕ) → at (map_of n) k ≡ at (map_of h) k = λ k.
    elim (some_or_none (at (map_of h) k)) [
      | inl found ↦ more k found.0 found.1 ∙ sym found.1
      | inr none ↦ elim (some_or_none (at (map_of n) k)) [
        | inr gone ↦ gone ∙ sym none
        | inl found ↦ absurd (not_there (at (map_of h) k) none
            (reached_old h n places first more k (all_reached n places second k (subst IsSome (sym found.1) refl))))
      ]
    ] in
    record {
      nodes = nodes;
      counts = λ k. omega (arith, first.counted k, second.counted k, inner_same k (map_of h) (map_of n) nodes);
    }
