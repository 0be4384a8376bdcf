-- What a write at the end of a path does to registers and nodes, told of equal registers and parts.
use Rattle.std.proofs.Common.{◌≡◌, ℕ, List, subst}
use Rattle.std.specs.Prelude.{Result, Err, IsOk}
use Rattle.wy_heap.specs.declared.part.Part.{Part}
use Rattle.wy_heap.specs.declared.heap.Heap.{Heap}
use Rattle.wy_heap.specs.Slots.{Step}
use Rattle.wy_mach.specs.Writing.{PutsAlong}

pub puts_along_as : (h n : Heap) (two left qs : List Part) (whole : ℕ) (place p item q : Part) (path : List Step) → two ≡ left → place ≡ p → item ≡ q → PutsAlong h n two qs whole place item path → PutsAlong h n left qs whole p q path
puts_along_as h n two left qs whole place p item q path left_is place_is item_is puts =
    subst (λ (l : List Part). PutsAlong h n l qs whole p q path) left_is
    (subst (λ (x : Part). PutsAlong h n two qs whole x q path) place_is (subst (λ (y : Part). PutsAlong h n two qs whole place y path) item_is puts))

-- an answer that failed didn't go
pub no_done : (e : Part) (r : Result (Unit {0}) Part) → r ≡ Err e → IsOk r → ⊥
no_done e r is done = let wrong : IsOk {T = Unit {0}} (Err e) = subst IsOk is done in absurd (cc)
