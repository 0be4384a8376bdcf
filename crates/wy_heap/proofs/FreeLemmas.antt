-- How a step of a release keeps the counts and the list of dead nodes.
use Rattle.std.proofs.Common.{◌≡◌, ◌≢◌, inl, inr, ℕ, suc, ◌+◌, ◌-◌, ◌≤◌, List, [], ◌∷◌, ◌++◌, map, set, Option, Some, None, IsSome, refl, sym, ◌∙◌, ap, subst, arith}
use Rattle.std.proofs.lemmas.Bool.{cases_eq}
use Rattle.std.proofs.lemmas.List.{map-set}
use Rattle.slab.specs.Slab.{get, ContainsKey, with_value}
use Rattle.slab.proofs.SlabLemmas.{Updates-with_value}
use Rattle.wy_heap.specs.declared.part.Part.{Part}
use Rattle.wy_heap.specs.declared.part.Part.TheVariants.{Key}
use Rattle.wy_heap.specs.declared.node.Node.{Node}
use Rattle.wy_heap.specs.declared.heap.Heap.{Heap}
use Rattle.wy_heap.specs.Nodes.{Map, body_of, map_of, at, held, slot_holds, inner, count_of, count_at, size}
use Rattle.wy_heap.specs.Freeing.{times, Chain, IsFreeing, Frees}
use Rattle.wy_heap.specs.Changing.{Changes, Lasts, More, Upholds}
use Rattle.wy_heap.proofs.CountLemmas.{held-append, holds_one, holds_other, inner_updated, size-set}
use Rattle.wy_heap.proofs.ChangeLemmas.{at-map_of, at_changed, at_others, count_changed, count_others, map_of-recounted, not_there}

times_one : (k : ℕ) (js : List ℕ) → times k (k ∷ js) ≡ 1 + times k js
times_one k js = grind arith

times_other : (k j : ℕ) (js : List ℕ) → j ≢ k → times k (j ∷ js) ≡ times k js
times_other k j js differ = grind (arith, differ)

off_first : (k j : ℕ) (js : List ℕ) → times k (j ∷ js) ≡ 0 → j ≢ k
off_first k j js off same = omega (arith, times_one k js, subst (λ (i : ℕ). times k (i ∷ js) ≡ 0) same off)

-- a change at a key that is not on the list keeps the list
chain_kept : (h n : Heap) (key : ℕ) → ((j : ℕ) → j ≢ key → get n.nodes j ≡ get h.nodes j) → (dead : List ℕ) (first : Option ℕ) → times key dead ≡ 0 → Chain h dead first → Chain n dead first
chain_kept h n key same [] first off chain = chain
chain_kept h n key same (j ∷ js) first off chain = (
  chain.0,
  record {
    node = chain.1.node;
    is = same j (off_first key j js off) ∙ chain.1.is;
    none = chain.1.none;
    then = chain_kept h n key same js chain.1.node.next (omega arith) chain.1.then;
  },
)

-- a node on the list has no holder
chain_zero : (h : Heap) (k : ℕ) (dead : List ℕ) (first : Option ℕ) → Chain h dead first → 1 ≤ times k dead → count_at h k ≡ 0
chain_zero h k [] first chain on = absurd (omega arith)
chain_zero h k (j ∷ js) first chain on =
    elim (cases_eq j k) [
      | inl same ↦ ap (count_at h) (sym same) ∙ ap count_of chain.1.is ∙ chain.1.none
      | inr differ ↦ chain_zero h k js chain.1.node.next chain.1.then (omega (arith, times_other k j js differ))
    ]

-- ---- one hold less

-- one hold on the key is let go of
pub record Lowers (h n : Heap) (key : ℕ) (old new : Node) : Type 0 where
  pub was : get h.nodes key ≡ Some old
  pub changes : Changes h n key (Some new)
  pub count : new.count ≡ old.count - 1
  pub same : map_of n ≡ map_of h

pub lowers : (h : Heap) (key : ℕ) (old new : Node) → get h.nodes key ≡ Some old → new.count ≡ old.count - 1 → body_of h.shapes (Some new) ≡ body_of h.shapes (Some old) → Lowers h (record h { nodes = with_value h.nodes key new }) key old new
lowers h key old new was count same =
    record {
      was = was;
      changes = record { shapes = refl; updates = Updates-with_value h.nodes key new (subst IsSome (sym was) refl) };
      count = count;
      same = map_of-recounted h key old new was same;
    }

module _ (h n : Heap) (key : ℕ) (old new : Node) (low : Lowers h n key old new) where
  count_was : count_at h key ≡ old.count
  count_was = ap count_of low.was

  count_is : count_at n key ≡ new.count
  count_is = count_changed h n key (Some new) low.changes

  others : (k : ℕ) → k ≢ key → count_at n k ≡ count_at h k
  others = count_others h n key (Some new) low.changes

  -- a key that is held has a holder
  pub lowered_positive : (first : Option ℕ) (places : List Part) (dead : List ℕ) → IsFreeing h first (Key key ∷ places) dead → 1 ≤ old.count
  lowered_positive first places dead free = omega (arith, count_was, free.counted key, holds_one key)

  lowered_counted : (first : Option ℕ) (places : List Part) (dead : List ℕ) → IsFreeing h first (Key key ∷ places) dead → (k : ℕ) → count_at n k ≡ held k places + inner k (map_of n)
  lowered_counted first places dead free k =
      elim (cases_eq k key) [
        | inl same ↦ subst (λ (i : ℕ). count_at n i ≡ held i places + inner i (map_of n)) (sym same) (omega (arith, count_is, low.count, count_was, free.counted key, holds_one key, ap (inner key) low.same))
        | inr differ ↦ omega (arith, others k differ, free.counted k, holds_other key k (λ e. differ (sym e)), ap (inner k) low.same)
      ]

  off_list : (first : Option ℕ) (places : List Part) (dead : List ℕ) → IsFreeing h first (Key key ∷ places) dead → times key dead ≡ 0
  off_list first places dead free =
      elim (cases_eq (times key dead) 0) [
        | inl none ↦ none
        | inr some ↦ absurd (omega (arith, chain_zero h key dead first free.chain (omega (arith, some)), count_was, lowered_positive first places dead free))
      ]

  here : (k : ℕ) → IsSome (at (map_of n) k) → IsSome (at (map_of h) k)
  here k = subst (λ (m : Map). IsSome (at m k)) low.same

  -- others still hold it
  pub lowered_stays : (first : Option ℕ) (places : List Part) (dead : List ℕ) → IsFreeing h first (Key key ∷ places) dead → new.count ≢ 0 → IsFreeing n first places dead
  lowered_stays first places dead free some =
      record {
        counted = lowered_counted first places dead free;
        alive = λ k is. elim (cases_eq k key) [
          | inl same ↦ subst (λ (i : ℕ). 1 ≤ count_at n i + times i dead) (sym same) (omega (arith, count_is, some))
          | inr differ ↦ omega (arith, others k differ, free.alive k (here k is))
        ];
        once = free.once;
        chain = chain_kept h n key low.changes.updates.others dead first (off_list first places dead free) free.chain;
      }

  -- it was the last
  pub lowered_dies : (first : Option ℕ) (places : List Part) (dead : List ℕ) → IsFreeing h first (Key key ∷ places) dead → new.count ≡ 0 → new.next ≡ first → IsFreeing n (Some key) places (key ∷ dead)
  lowered_dies first places dead free none link =
      record {
        counted = lowered_counted first places dead free;
        alive = λ k is. elim (cases_eq k key) [
          | inl same ↦ subst (λ (i : ℕ). 1 ≤ count_at n i + times i (key ∷ dead)) (sym same) (omega (arith, times_one key dead))
          | inr differ ↦ omega (arith, others k differ, free.alive k (here k is), times_other k key dead (λ e. differ (sym e)))
        ];
        once = λ k. elim (cases_eq key k) [
          | inl same ↦ subst (λ (i : ℕ). times i (key ∷ dead) ≤ 1) same (omega (arith, times_one key dead, off_list first places dead free))
          | inr differ ↦ omega (arith, times_other k key dead differ, free.once k)
        ];
        chain = (
          refl,
          record {
            node = new;
            is = low.changes.updates.changed;
            none = none;
            then = chain_kept h n key low.changes.updates.others dead new.next (off_list first places dead free) (subst (Chain h dead) (sym link) free.chain);
          },
        );
      }

-- ---- the first dead node leaves

pub first_there : (h : Heap) (first : Option ℕ) (places : List Part) (key : ℕ) → Frees h first places → first ≡ Some key → ContainsKey h.nodes key
first_there h first places key ([], free) is = absurd (let none = free.chain in cc)
first_there h first places key (j ∷ js, free) is =
    let some = free.chain.0 in
    let same : j ≡ key = cc in
    subst (λ (i : ℕ). IsSome (get h.nodes i)) same (subst IsSome (sym free.chain.1.is) refl)

dead_count : (h : Heap) (first : Option ℕ) (key : ℕ) (places : List Part) → first ≡ Some key → Frees h first places → count_at h key ≡ 0
dead_count h first key places is ([], free) = absurd (let none = free.chain in cc)
dead_count h first key places is (j ∷ js, free) =
    let some = free.chain.0 in
    let same : j ≡ key = cc in
    ap (count_at h) (sym same) ∙ ap count_of free.chain.1.is ∙ free.chain.1.none

-- the first dead node leaves, and its parts are in hand
unlinked : (h n : Heap) (key : ℕ) (node : Node) → get h.nodes key ≡ Some node → Changes h n key None → (places : List Part) (j : ℕ) (js : List ℕ) → IsFreeing h (Some key) places (j ∷ js) → IsFreeing n node.next (node.parts.items ++ places) js
unlinked h n key node was changes places j js free =
    let first = free.chain.0 in
    let is_first : j ≡ key = cc in
    let link = free.chain.1 in
    let found = link.is in
    let moved : get h.nodes j ≡ get h.nodes key = ap (get h.nodes) is_first in
    let same : link.node ≡ node = cc in
    let once : times key js ≡ 0 = omega (arith, free.once key, times_one key js, ap (λ (i : ℕ). times key (i ∷ js)) is_first) in
    let zero_count : count_at h key ≡ 0 = ap count_of was ∙ ap (λ (x : Node). x.count) (sym same) ∙ link.none in
    let gone : count_at n key ≡ 0 = count_changed h n key None changes in
    let at_h = at-map_of h key ∙ ap (body_of h.shapes) was in
    let at_n = at_changed h n key None changes in
    let others = at_others h n key None changes in
    record {
      counted = λ k.
          let sums = inner_updated k (map_of h) (map_of n) key others in
          let slot_h = ap (slot_holds k) at_h in
          let slot_n = ap (slot_holds k) at_n in
          let more = held-append k node.parts.items places in
          let here = free.counted k in
          elim (cases_eq k key) [
            | inl e ↦
                let count_n : count_at n k ≡ 0 = ap (count_at n) e ∙ gone in
                let count_h : count_at h k ≡ 0 = ap (count_at h) e ∙ zero_count in
                omega arith
            | inr differ ↦
                let count_n : count_at n k ≡ count_at h k = count_others h n key None changes k differ in
                omega arith
          ];
      alive = λ k is. elim (cases_eq k key) [
        | inl e ↦ absurd (not_there (at (map_of n) k) (ap (at (map_of n)) e ∙ at_n) is)
        | inr differ ↦
            let count_n : count_at n k ≡ count_at h k = count_others h n key None changes k differ in
            let off : times k (j ∷ js) ≡ times k js = times_other k j js (λ e. differ (sym e ∙ is_first)) in
            omega (arith, free.alive k (subst IsSome (others k differ) is))
      ];
      once = λ k. omega (arith, free.once k);
      chain = chain_kept h n key changes.updates.others js node.next once (subst (λ (x : Node). Chain h js x.next) same link.then);
    }

pub unlinks : (h n : Heap) (first : Option ℕ) (key : ℕ) (node : Node) → get h.nodes key ≡ Some node → Changes h n key None → first ≡ Some key → (places : List Part) → Frees h first places → Frees n node.next (node.parts.items ++ places)
unlinks h n first key node was changes is places ([], free) = absurd (let none = free.chain in cc)
unlinks h n first key node was changes is places (j ∷ js, free) =
    (js, unlinked h n key node was changes places j js (subst (λ (f : Option ℕ). IsFreeing h f places (j ∷ js)) is free))

pub lasts_less : (m : Map) (h n : Heap) (key : ℕ) → Changes h n key None → Lasts m (map_of h) → Lasts m (map_of n)
lasts_less m h n key changes lasts k =
    elim (cases_eq k key) [
      | inl same ↦ inl (ap (at (map_of n)) same ∙ at_changed h n key None changes)
      | inr differ ↦
          let kept = at_others h n key None changes k differ in
          elim (lasts k) [ inl gone ↦ inl (kept ∙ gone) | inr same ↦ inr (kept ∙ same) ]
    ]

pub size_less : (h : Heap) (slots : List (Option Node)) (key : ℕ) (node : Node) → get h.nodes key ≡ Some node → slots ≡ set h.nodes.slots key None → size (map (body_of h.shapes) slots) + 1 ≡ size (map_of h)
size_less h slots key node was is =
    let moved : map (body_of h.shapes) slots ≡ set (map_of h) key None = ap (map (body_of h.shapes)) is ∙ map-set (body_of h.shapes) h.nodes.slots key None in
    omega (arith, ap size moved, size-set (map_of h) key _ (at-map_of h key ∙ ap (body_of h.shapes) was))

-- ---- what is held up stays

inner_more : (k : ℕ) (base m : Map) → More base m → inner k base ≤ inner k m
inner_more k [] m more = omega arith
inner_more k (None ∷ cs) [] more = omega (arith, inner_more k cs [] (λ j b is. more (suc j) b is))
inner_more k (None ∷ cs) (d ∷ ds) more = omega (arith, inner_more k cs ds (λ j b is. more (suc j) b is))
inner_more k (Some c ∷ cs) [] more = absurd (let h = more 0 c refl in cc)
inner_more k (Some c ∷ cs) (d ∷ ds) more =
    omega (arith, ap (slot_holds k) (more 0 c refl), inner_more k cs ds (λ j b is. more (suc j) b is))

pub upheld_less : (h n : Heap) (first : Option ℕ) (key : ℕ) (others : List Part) → first ≡ Some key → Frees h first others → Changes h n key None → (base : Map) → Upholds base others → More base (map_of h) → More base (map_of n)
upheld_less h n first key others is frees changes base upholds more k b was =
    elim (cases_eq k key) [
      | inl same ↦ absurd (omega (
        arith,
        dead_count h first key others is frees,
        frees.1.counted key,
        inner_more key base (map_of h) more,
        upholds key b (ap (at base) (sym same) ∙ was),
      ))
      | inr differ ↦ at_others h n key None changes k differ ∙ more k b was
    ]

pub removed_lower : (h n : Heap) (key : ℕ) → Changes h n key None → (k : ℕ) → count_at n k ≤ count_at h k
removed_lower h n key changes k = elim (cases_eq k key) [
  | inl same ↦ omega (arith, ap (count_at n) same, count_changed h n key None changes)
  | inr differ ↦ omega (arith, count_others h n key None changes k differ)
]
