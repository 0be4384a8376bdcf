-- Holders counted in lists of parts and of nodes.
use Rattle.std.proofs.Common.{◌≡◌, ◌≢◌, ℕ, zero, suc, ◌+◌, ◌≤◌, ◌<◌, List, [], ◌∷◌, ◌++◌, length, get_or, set, Some, None, refl, ap, arith, take, inl, inr}
use Rattle.std.proofs.lemmas.Bool.{cases_eq}
use Rattle.std.proofs.lemmas.List.{take_more}
use Rattle.wy_heap.specs.declared.part.Part.{Part}
use Rattle.wy_heap.specs.declared.part.Part.TheVariants.{Null, Bool, Int, Key}
use Rattle.wy_heap.specs.Nodes.{Body, Map, at, holds, held, slot_holds, inner, size}

pub held-append : (k : ℕ) (ps qs : List Part) → held k (ps ++ qs) ≡ held k ps + held k qs
held-append k [] qs = omega arith
held-append k (p ∷ ps) qs = omega (arith, held-append k ps qs)

pub holds_one : (k : ℕ) → holds k (Key k) ≡ 1
holds_one k = grind arith

pub holds_other : (j k : ℕ) → j ≢ k → holds k (Key j) ≡ 0
holds_other j k differ = grind (arith, differ)

pub holds-le-one : (k : ℕ) (p : Part) → holds k p ≤ 1
holds-le-one k Null = omega arith
holds-le-one k (Bool b) = omega arith
holds-le-one k (Int n) = omega arith
holds-le-one k (Key j) = elim (cases_eq j k) [ inl same ↦ omega (arith, holds_one k, ap (λ (i : ℕ). holds k (Key i)) same) | inr differ ↦ omega (arith, holds_other j k differ) ]

pub held-le-length : (k : ℕ) (ps : List Part) → held k ps ≤ length ps
held-le-length k [] = omega arith
held-le-length k (p ∷ ps) = omega (arith, held-le-length k ps, holds-le-one k p)

-- a part that holds the key is the hold on it
pub holds_is : (k : ℕ) (p : Part) → 1 ≤ holds k p → p ≡ Key k
holds_is k Null some = absurd (omega arith)
holds_is k (Bool b) some = absurd (omega arith)
holds_is k (Int n) some = absurd (omega arith)
holds_is k (Key j) some = elim (cases_eq j k) [ inl same ↦ ap (λ (i : ℕ). Key i) same | inr differ ↦ absurd (omega (arith, holds_other j k differ)) ]

-- a part holds no more than all of them
pub holds-get_or : (k : ℕ) (ps : List Part) (i : ℕ) → holds k (get_or ps i Null) ≤ held k ps
holds-get_or k [] i = omega arith
holds-get_or k (p ∷ ps) zero = omega arith
holds-get_or k (p ∷ ps) (suc i) = omega (arith, holds-get_or k ps i)

pub held-take_more : (k : ℕ) (ps : List Part) (i : ℕ) → i < length ps → held k (take (i + 1) ps) ≡ held k (take i ps) + holds k (get_or ps i Null)
held-take_more k ps i below = rw (take_more ps i Null below) (omega (arith, held-append k (take i ps) (get_or ps i Null ∷ [])))

pub held-set : (k : ℕ) (ps : List Part) (i : ℕ) (q : Part) → i < length ps → held k (set ps i q) + holds k (get_or ps i Null) ≡ held k ps + holds k q
held-set k [] i q below = absurd (omega arith)
held-set k (p ∷ ps) zero q below = omega arith
held-set k (p ∷ ps) (suc i) q below = omega (arith, held-set k ps i q (omega arith))

pub inner_same : (k : ℕ) (m n : Map) → ((j : ℕ) → at n j ≡ at m j) → inner k n ≡ inner k m
inner_same k [] [] same = refl
inner_same k [] (c ∷ cs) same =
    omega (arith, ap (slot_holds k) (same 0), inner_same k [] cs (λ j. same (suc j)))
inner_same k (c ∷ cs) [] same =
    omega (arith, ap (slot_holds k) (same 0), inner_same k cs [] (λ j. same (suc j)))
inner_same k (c ∷ cs) (d ∷ ds) same =
    omega (arith, ap (slot_holds k) (same 0), inner_same k cs ds (λ j. same (suc j)))

-- the sum over all nodes where one of them changes
pub inner_updated : (k : ℕ) (m n : Map) (key : ℕ) → ((j : ℕ) → j ≢ key → at n j ≡ at m j) → inner k n + slot_holds k (at m key) ≡ inner k m + slot_holds k (at n key)
inner_updated k [] [] key same = refl
inner_updated k [] (c ∷ cs) zero same = omega (arith, inner_same k [] cs (λ j. same (suc j) (omega arith)))
inner_updated k (c ∷ cs) [] zero same = omega (arith, inner_same k cs [] (λ j. same (suc j) (omega arith)))
inner_updated k (c ∷ cs) (d ∷ ds) zero same = omega (arith, inner_same k cs ds (λ j. same (suc j) (omega arith)))
inner_updated k [] (c ∷ cs) (suc key) same =
    omega (arith, ap (slot_holds k) (same 0 (omega arith)), inner_updated k [] cs key (λ j other. same (suc j) (omega arith)))
inner_updated k (c ∷ cs) [] (suc key) same =
    omega (arith, ap (slot_holds k) (same 0 (omega arith)), inner_updated k cs [] key (λ j other. same (suc j) (omega arith)))
inner_updated k (c ∷ cs) (d ∷ ds) (suc key) same =
    omega (arith, ap (slot_holds k) (same 0 (omega arith)), inner_updated k cs ds key (λ j other. same (suc j) (omega arith)))

-- a node holds no more than all nodes
pub slot-le-inner : (k : ℕ) (m : Map) (key : ℕ) → slot_holds k (at m key) ≤ inner k m
slot-le-inner k [] key = omega arith
slot-le-inner k (c ∷ cs) zero = omega arith
slot-le-inner k (c ∷ cs) (suc key) = omega (arith, slot-le-inner k cs key)

-- the parts of a node that is there are held
pub inner_part : (m : Map) (k j : ℕ) (b : Body) → at m k ≡ Some b → 1 ≤ held j b.parts → 1 ≤ inner j m
inner_part m k j b is some = omega (arith, slot-le-inner j m k, ap (slot_holds j) is)

pub size-set : (m : Map) (key : ℕ) (b : Body) → at m key ≡ Some b → size (set m key None) + 1 ≡ size m
size-set [] key b is = absurd (cc)
size-set (None ∷ cs) zero b is = absurd (cc)
size-set (Some c ∷ cs) zero b is = omega arith
size-set (None ∷ cs) (suc key) b is = size-set cs key b is
size-set (Some c ∷ cs) (suc key) b is = omega (arith, size-set cs key b is)
