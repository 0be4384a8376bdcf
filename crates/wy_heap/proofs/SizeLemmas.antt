-- How many nodes a heap has, and how many copies were counted.
use Rattle.std.proofs.Common.{◌≡◌, ◌≢◌, ℕ, zero, suc, ◌+◌, min, List, [], ◌∷◌, Option, Some, None, refl, ◌∙◌, ap, arith}
use Rattle.wy_heap.specs.declared.part.Part.{Part}
use Rattle.wy_heap.specs.declared.heap.Heap.{Heap}
use Rattle.wy_heap.specs.Nodes.{Form, Body, Map, map_of, at, size}
use Rattle.wy_heap.specs.Changing.{Joins, Swaps}
use Rattle.wy_heap.specs.Copying.{raised, CopiesAsMany}

-- ---- numbers

pub raised-raised : (n a b : ℕ) → raised (raised n a) b ≡ raised n (a + b)
raised-raised n zero b = let e : b ≡ 0 + b = omega arith in ap (raised n) e
raised-raised n (suc a) zero = let e : suc a ≡ suc a + 0 = omega arith in ap (raised n) e
raised-raised n (suc a) (suc b) =
    let e : suc (a + suc b) ≡ suc a + suc b = omega arith in
    let sums : min (min (n + suc a) 18446744073709551615 + suc b) 18446744073709551615 ≡ min (n + suc (a + suc b)) 18446744073709551615 = omega arith in
    sums ∙ ap (raised n) e

pub copies_none : (h : Heap) → CopiesAsMany h h
copies_none h = (0, omega arith, refl)

pub copies_trans : (a b c : Heap) → CopiesAsMany a b → CopiesAsMany b c → CopiesAsMany a c
copies_trans a b c first second =
    (first.0 + second.0, omega (arith, first.1, second.1), second.2 ∙ ap (λ (n : ℕ). raised n second.0) first.2 ∙ raised-raised a.copies first.0 second.0)

one_if : Option Body → ℕ
one_if None = 0
one_if (Some b) = 1

pub size_same : (m n : Map) → ((j : ℕ) → at n j ≡ at m j) → size n ≡ size m
unfolding one_if
size_same [] [] same = refl
size_same [] (None ∷ cs) same = size_same [] cs (λ j. same (suc j))
size_same [] (Some c ∷ cs) same = absurd (let h = same 0 in cc)
size_same (None ∷ cs) [] same = size_same cs [] (λ j. same (suc j))
size_same (Some c ∷ cs) [] same = absurd (let h = same 0 in cc)
size_same (None ∷ cs) (None ∷ ds) same = size_same cs ds (λ j. same (suc j))
size_same (None ∷ cs) (Some d ∷ ds) same = absurd (let h = same 0 in cc)
size_same (Some c ∷ cs) (None ∷ ds) same = absurd (let h = same 0 in cc)
size_same (Some c ∷ cs) (Some d ∷ ds) same = omega (arith, size_same cs ds (λ j. same (suc j)))

size_head : (c : Option Body) (cs : Map) → size (c ∷ cs) ≡ one_if c + size cs
unfolding one_if
size_head None cs = omega arith
size_head (Some c) cs = omega arith

size_updated : (m n : Map) (key : ℕ) → ((j : ℕ) → j ≢ key → at n j ≡ at m j) → size n + one_if (at m key) ≡ size m + one_if (at n key)
unfolding one_if
size_updated [] [] key same = refl
size_updated [] (c ∷ cs) zero same = omega (arith, size_head c cs, size_same [] cs (λ j. same (suc j) (omega arith)))
size_updated (c ∷ cs) [] zero same = omega (arith, size_head c cs, size_same cs [] (λ j. same (suc j) (omega arith)))
size_updated (c ∷ cs) (d ∷ ds) zero same = omega (arith, size_head c cs, size_head d ds, size_same cs ds (λ j. same (suc j) (omega arith)))
size_updated [] (c ∷ cs) (suc key) same =
    omega (arith, size_head c cs, ap one_if (same 0 (omega arith)), size_updated [] cs key (λ j other. same (suc j) (omega arith)))
size_updated (c ∷ cs) [] (suc key) same =
    omega (arith, size_head c cs, ap one_if (same 0 (omega arith)), size_updated cs [] key (λ j other. same (suc j) (omega arith)))
size_updated (c ∷ cs) (d ∷ ds) (suc key) same =
    omega (arith, size_head c cs, size_head d ds, ap one_if (same 0 (omega arith)), size_updated cs ds key (λ j other. same (suc j) (omega arith)))

pub size_joined : (h n : Heap) (made : ℕ) (form : Form) (parts : List Part) → Joins h n made form parts → size (map_of n) ≡ size (map_of h) + 1
unfolding one_if
size_joined h n made form parts joins = omega (arith, size_updated (map_of h) (map_of n) made joins.others, ap one_if joins.vacant, ap one_if joins.is)

pub size_swapped : (h n : Heap) (key place : ℕ) (part : Part) → Swaps h n key place part → size (map_of n) ≡ size (map_of h)
unfolding one_if
size_swapped h n key place part swaps = omega (arith, size_updated (map_of h) (map_of n) key swaps.others, ap one_if swaps.was, ap one_if swaps.is)
