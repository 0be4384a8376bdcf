-- What the calls inside keep.
use Rattle.std.proofs.Common.{◌≡◌, inl, inr, ℕ, ◌+◌, ◌≤◌, List, [], ◌∷◌, Option, Some, None, IsSome, refl, sym, ◌∙◌, ap, subst, arith, get_or}
use Rattle.slab.specs.Slab.{get}
use Rattle.wy_value.specs.Datum.{Datum, Data, no_items, item}
use Rattle.wy_value.specs.Datum as datum
use Rattle.wy_value.specs.declared.shapes.Shapes.{Shapes}
use Rattle.wy_value.specs.Shapes.{IsShapes}
use Rattle.wy_heap.specs.declared.part.Part.{Part}
use Rattle.wy_heap.specs.declared.part.Part.TheVariants.{Null, Bool, Int, Key}
use Rattle.wy_heap.specs.declared.node.Node.{Node}
use Rattle.wy_heap.specs.declared.heap.Heap.{Heap}
use Rattle.wy_heap.specs.Nodes.{Body, Map, body_of, map_of, at, holds, held, inner, count_of, count_at}
use Rattle.wy_heap.specs.Meaning.{Means, MeanAll, IsMeant}
use Rattle.wy_heap.specs.Standing.{IsCounted, Counts, IsWithin, Stands, Among, Acts}
use Rattle.wy_heap.specs.Freeing.{IsFreeing, Frees}
use Rattle.wy_heap.specs.Changing.{Leads, SameNodes, Lasts}
use Rattle.wy_heap.proofs.CountLemmas.{holds_one, inner_part, inner_same}
use Rattle.wy_heap.proofs.ChangeLemmas.{at-map_of, count_there, not_there}
use Rattle.wy_heap.proofs.MeaningLemmas.{Each, IsClosed, means_kept, each_held}

-- the places in another order
pub reordered : (c : ℕ → ℕ) (m : Map) (ps qs : List Part) → ((k : ℕ) → held k qs ≡ held k ps) → IsCounted c m ps → IsCounted c m qs
reordered c m ps qs same counts = record {
  counted = λ k. omega (arith, same k, counts.counted k);
  alive = counts.alive;
  there = counts.there;
  meant = counts.meant;
}

-- a part that is no key holds none
holds_none : (k : ℕ) (s : Part) → ((j : ℕ) → s ≡ Key j → ⊥) → holds k s ≡ 0
holds_none k Null none = refl
holds_none k (Bool b) none = refl
holds_none k (Int n) none = refl
holds_none k (Key j) none = absurd (none j refl)

-- a place without a node is let go of, and nothing changes
pub let_go_scalar : (h : Heap) (s : Part) (others : List Part) → ((j : ℕ) → s ≡ Key j → ⊥) → Counts h (s ∷ others) → Leads h h [] others
let_go_scalar h s others none counts = record {
  counts = reordered (count_at h) (map_of h) (s ∷ others) others (λ k. omega (arith, holds_none k s none)) counts;
  keeps = λ q d among means. means;
}

-- the key is among places that begin with it
pub among_first : (p : Part) (others : List Part) → Among (p ∷ others) p
among_first p others k e = omega (arith, ap (holds k) e, holds_one k)

-- a part that is among the places stands for a datum
pub part_meant : (m : Map) (p : Part) → ((k : ℕ) → p ≡ Key k → IsMeant m (Key k)) → IsMeant m p
part_meant m Null from = (datum.Null, refl)
part_meant m (Bool b) from = (datum.Truth b, refl)
part_meant m (Int n) from = (datum.Whole n, refl)
part_meant m (Key k) from = from k refl

pub parts_meant : (m : Map) (ps : List Part) → ((k : ℕ) → 1 ≤ held k ps → IsMeant m (Key k)) → (ds : Data) × MeanAll m ds ps
parts_meant m [] from = (no_items, refl)
parts_meant m (p ∷ ps) from =
    let first = part_meant m p (λ k is. from k (omega (arith, ap (holds k) is, holds_one k))) in
    let rest = parts_meant m ps (λ k some. from k (omega arith)) in
    (item first.0 rest.0, (first.1, rest.1))

-- a key that places hold stands for a datum
pub held_meant : (h : Heap) (places : List Part) → Counts h places → (k : ℕ) → 1 ≤ held k places + inner k (map_of h) → IsMeant (map_of h) (Key k)
held_meant h places counts k some = counts.meant k (counts.there k (omega (arith, counts.counted k)))

pub among_meant : (h : Heap) (places : List Part) (p : Part) → Counts h places → Among places p → IsMeant (map_of h) p
among_meant h places p counts among = part_meant (map_of h) p (λ k e. held_meant h places counts k (omega (arith, among k e)))

-- ---- nothing changed

Any : Part → Type 0
Any q = Unit {0}

each_any : (ps : List Part) → Each Any ps
unfolding Any
each_any [] = tt
each_any (p ∷ ps) = (tt, each_any ps)

-- where each node is as before, each part stands for what it stood for
pub means_same : (m n : Map) → ((k : ℕ) → at n k ≡ at m k) → (d : Datum) (q : Part) → Means m d q → Means n d q
unfolding Any
means_same m n same d q means = means_kept m n Any (λ k b safe was. (same k ∙ was, each_any b.parts)) d q tt means

pub counts_same : (h n : Heap) (places : List Part) → SameNodes h n → Counts h places → Counts n places
counts_same h n places same counts = record {
  counted = λ k. omega (arith, same.counts k, counts.counted k, inner_same k (map_of h) (map_of n) same.nodes);
  alive = λ k is. omega (arith, same.counts k, counts.alive k (subst IsSome (same.nodes k) is));
  there = count_there n;
  meant = λ k is.
      let d = counts.meant k (subst IsSome (same.nodes k) is) in
      (d.0, means_same (map_of h) (map_of n) same.nodes d.0 (Key k) d.1);
}

pub same_slots : (h n : Heap) → n.nodes.slots ≡ h.nodes.slots → n.shapes ≡ h.shapes → SameNodes h n
same_slots h n slots shapes = record {
  nodes = λ k. at-map_of n k ∙ ap (λ (t : Shapes). body_of t (get n.nodes k)) shapes
      ∙ ap (λ (l : List (Option Node)). body_of h.shapes (get_or l k None)) slots ∙ sym (at-map_of h k);
  counts = λ k. ap (λ (l : List (Option Node)). count_of (get_or l k None)) slots;
}

-- ---- a whole heap

pub within_same : (h n : Heap) → ((k : ℕ) → count_at n k ≤ count_at h k) → n.cap ≡ h.cap → IsWithin h → IsWithin n
within_same h n less cap within k = omega (arith, less k, cap, within k)

-- a call inside that keeps within the cap is a call of a heap that stands
pub acts_from : (h n : Heap) (made others spent : List Part) → Stands h spent → Leads h n made others → IsWithin n → n.cap ≡ h.cap → n.shapes ≡ h.shapes → Acts h n made others
acts_from h n made others spent stands leads within cap shapes = record {
  stands = record {
    counts = leads.counts;
    within = within;
    some = omega (arith, cap, stands.some);
    table = subst IsShapes (sym shapes) stands.table;
  };
  keeps = leads.keeps;
}

-- ---- a release

-- the keys that have a node
IsIn : Map → Part → Type 0
IsIn m q = (j : ℕ) → q ≡ Key j → IsSome (at m j)

lasting : (m n : Map) (k : ℕ) (b : Body) → Lasts m n → IsSome (at n k) → at m k ≡ Some b → at n k ≡ Some b
lasting m n k b lasts is was = elim (lasts k) [ inl gone ↦ absurd (not_there _ gone is) | inr same ↦ same ∙ was ]

closed_in : (m n : Map) → Lasts m n → ((j : ℕ) → 1 ≤ inner j n → IsSome (at n j)) → IsClosed m n (IsIn n)
unfolding IsIn
closed_in m n lasts there k b safe was =
    let is = lasting m n k b lasts (safe k refl) was in
    (is, each_held (IsIn n) b.parts (λ q among j e. there j (inner_part n k j b is (among j e))))

freed : (h n : Heap) (p : Part) (others : List Part) → Counts h (p ∷ others) → IsFreeing n None others [] → Lasts (map_of h) (map_of n) → Leads h n [] others
unfolding IsIn
freed h n p others counts free lasts =
    let there : (j : ℕ) → 1 ≤ inner j (map_of n) → IsSome (at (map_of n) j) = λ j some. count_there n j (omega (arith, free.counted j)) in
    let closed = closed_in (map_of h) (map_of n) lasts there in
    record {
      counts = record {
        counted = free.counted;
        alive = λ k is. omega (arith, free.alive k is);
        there = count_there n;
        meant = λ k is.
            let was : IsSome (at (map_of h) k) = elim (lasts k) [ inl gone ↦ absurd (not_there _ gone is) | inr same ↦ subst IsSome same is ] in
            let d = counts.meant k was in
            (d.0, means_kept (map_of h) (map_of n) (IsIn (map_of n)) closed d.0 (Key k) (λ j e. let same : k ≡ j = cc in subst (λ (i : ℕ). IsSome (at (map_of n) i)) same is) d.1);
      };
      keeps = λ q d among. means_kept (map_of h) (map_of n) (IsIn (map_of n)) closed d q (λ j e. count_there n j (omega (arith, free.counted j, among j e)));
    }

pub released : (h n : Heap) (p : Part) (first : Option ℕ) (others : List Part) → Counts h (p ∷ others) → Frees n first others → first ≡ None → Lasts (map_of h) (map_of n) → Leads h n [] others
released h n p first others counts ([], free) none lasts = freed h n p others counts (subst (λ (f : Option ℕ). IsFreeing n f others []) none free) lasts
released h n p first others counts (j ∷ js, free) none lasts = absurd (let some = free.chain.0 in cc)

-- a heap that is counted is in the middle of no release
pub counted_freeing : (h : Heap) (places : List Part) → Counts h places → Frees h None places
counted_freeing h places counts = (
  [],
  record {
    counted = counts.counted;
    alive = λ k is. omega (arith, counts.alive k is);
    once = λ k. omega arith;
    chain = refl;
  },
)
