-- The nodes of a heap are those that its places reach.
use Rattle.std.proofs.Common.{◌≡◌, inl, inr, ◌↔◌, ℕ, suc, List, [], ◌∷◌, Some, None, IsSome, refl, sym, subst, arith}
use Rattle.wy_heap.specs.declared.part.Part.{Part}
use Rattle.wy_heap.specs.declared.heap.Heap.{Heap}
use Rattle.wy_heap.specs.Nodes.{Map, map_of, at, size}
use Rattle.wy_heap.specs.Standing.{Stands}
use Rattle.wy_heap.specs.Reaching.{Reach, root, part}
use Rattle.wy_heap.proofs.ChangeLemmas.{some_or_none}
use Rattle.wy_heap.proofs.ReachLemmas.{all_reached, reached_old}

pub nodes_are_reached : (h : Heap) (places : List Part) → Stands h places → (k : ℕ) → IsSome (at (map_of h) k) ↔ Reach (map_of h) places k
nodes_are_reached h places stands k =
    ((λ is. all_reached h places stands.counts k is), (λ reach. reached_old h h places stands.counts (λ j b was. was) k reach))

-- no place reaches nothing
pub unreached : (m : Map) (k : ℕ) → Reach m [] k → ⊥
unreached m k (root _ some) = omega (arith, some)
unreached m k (part j _ b reach is some) = unreached m j reach

pub size_none : (m : Map) → ((k : ℕ) → at m k ≡ None) → size m ≡ 0
size_none [] none = refl
size_none (None ∷ cs) none = size_none cs (λ k. none (suc k))
size_none (Some b ∷ cs) none = absurd (let e = none 0 in cc)

pub none_left : (h : Heap) → Stands h [] → size (map_of h) ≡ 0
none_left h stands = size_none (map_of h) (λ k. elim (some_or_none (at (map_of h) k)) [
  | inr none ↦ none
  | inl found ↦ absurd (unreached (map_of h) k (all_reached h [] stands.counts k (subst IsSome (sym found.1) refl)))
])
