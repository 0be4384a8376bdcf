-- Two registers compared.
use Rattle.std.proofs.Common.{◌≡◌, ◌≢◌, ℕ, zero, suc, ◌≤◌, ◌<◌, List, [], ◌∷◌, ◌++◌, length, get_or, set, Option, Some, None, Bool, true, false, refl, sym, ◌∙◌, ap, subst, arith}
use Rattle.wy_value.specs.Datum.{Datum, Truth}
use Rattle.wy_heap.specs.declared.part.Part.{Part}
use Rattle.wy_heap.specs.declared.part.Part.TheVariants.{Null}
use Rattle.wy_heap.specs.declared.part.Part.TheVariants as part
use Rattle.wy_heap.specs.declared.heap.Heap.{Heap}
use Rattle.wy_heap.specs.Nodes.{Map, map_of, holds, held}
use Rattle.wy_heap.specs.Meaning.{Means}
use Rattle.wy_heap.specs.Standing.{Stands}
use Rattle.wy_heap.specs.Comparing.{Tells}
use Rattle.wy_heap.proofs.CountLemmas.{held-append, held-set}
use Rattle.wy_heap.proofs.RowLemmas.{restood}
use Rattle.wy_sem.specs.Operations.{same}
use Rattle.wy_sem.specs.Expressions.{Store, slot}
use Rattle.wy_code_spec.specs.step.Step.{Effect, Fails, there, gives}
use Rattle.wy_mach.specs.Showing.{Leaves, WentOn, AreRegisters, Puts}
use Rattle.wy_mach.specs.Operands.{TellsSame, ComparesNone}
use Rattle.wy_mach.specs.declared.stop.Stop.TheVariants.{Stuck}
use Rattle.wy_mach.proofs.RegisterLemmas.{shows_slot, slot_within}
use Rattle.wy_mach.proofs.NumberLemmas.{scalar_leaves}
use Rattle.wy_mach.proofs.SameLemmas.{same_self, same_not}

get-set_other : (ps : List Part) (i j : ℕ) (p : Part) → i ≢ j → get_or (set ps i p) j Null ≡ get_or ps j Null
get-set_other [] i j p differ = refl
get-set_other (q ∷ ps) zero zero p differ = absurd (differ refl)
get-set_other (q ∷ ps) zero (suc j) p differ = refl
get-set_other (q ∷ ps) (suc i) zero p differ = refl
get-set_other (q ∷ ps) (suc i) (suc j) p differ = get-set_other ps i j p (λ e. differ (ap (λ (n : ℕ). suc n) e))

pub length-set_part : (ps : List Part) (i : ℕ) (p : Part) → length (set ps i p) ≡ length ps
length-set_part [] i p = refl
length-set_part (q ∷ ps) zero p = refl
length-set_part (q ∷ ps) (suc i) p = ap (λ (n : ℕ). suc n) (length-set_part ps i p)

-- the places in two registers, and the rest
pub two_out : (h : Heap) (ps others : List Part) (i j : ℕ) (p q : Part) → p ≡ get_or ps i Null → q ≡ get_or ps j Null → i < length ps → j < length ps → i ≢ j → Stands h (ps ++ others) → Stands h (p ∷ q ∷ (set (set ps i Null) j Null ++ others))
two_out h ps others i j p q first second left right differ stands =
    restood h (ps ++ others) (p ∷ q ∷ (set (set ps i Null) j Null ++ others))
    (λ k. omega (
      arith,
      held-append k ps others,
      held-append k (set (set ps i Null) j Null) others,
      held-set k ps i Null left,
      held-set k (set ps i Null) j Null (omega (arith, right, length-set_part ps i Null)),
      ap (holds k) (get-set_other ps i j Null differ),
      ap (holds k) first,
      ap (holds k) second,
    ))
    stands

-- the heap's answer tells whether the data are the same
tells : (m : Map) (p q : Part) (answer : Bool) (d e : Datum) → Tells m p q answer → Means m d p → Means m e q → same d e ≡ answer
tells m p q true d e told first second = subst (λ (x : Datum). same d x ≡ true) (told d e first second) (same_self d)
tells m p q false d e told first second = same_not d e (same d e) refl (told d e first second)

pub tells_same : (h : Heap) (ps : List Part) (a b : ℕ) (p q : Part) (answer : Bool) → p ≡ get_or ps a Null → q ≡ get_or ps b Null → Tells (map_of h) p q answer → TellsSame h ps a b answer
tells_same h ps a b p q answer first second told s d e shows left right =
    tells (map_of h) p q answer d e told
    (subst (Means (map_of h) d) (sym first) (shows_slot (map_of h) s ps a d shows left))
    (subst (Means (map_of h) e) (sym second) (shows_slot (map_of h) s ps b e shows right))

some_is : (a b : Datum) → Some a ≡ Some b → a ≡ b
some_is a b e = cc

-- one register holds the same as itself
pub tells_itself : (h : Heap) (ps : List Part) (a b : ℕ) → a ≡ b → TellsSame h ps a b true
tells_itself h ps a b is s d e shows left right =
    let one : d ≡ e = some_is d e (sym left ∙ ap (slot s) is ∙ right) in
    subst (λ (x : Datum). same d x ≡ true) one (same_self d)

-- the effect of a comparison, from what is owed of two registers that hold something
pub equal_by : (P : Effect → Type 0) (s : Store) (a b d : ℕ) (o p : Option Datum) → P Fails → ((v w : Datum) → o ≡ Some v → p ≡ Some w → P (gives s d (Truth (same v w)))) → P (there o (λ v. there p (λ w. gives s d (Truth (same v w)))))
equal_by P s a b d None p fails goes = fails
equal_by P s a b d (Some v) None fails goes = fails
equal_by P s a b d (Some v) (Some w) fails goes = goes v w refl refl

pub equal_goes : (h n : Heap) (ps qs : List Part) (to a b : ℕ) (answer : Bool) (p : Part) → AreRegisters h ps → TellsSame h ps a b answer → p ≡ part.Bool answer → Puts h n ps p qs → qs ≡ set ps to p
    → WentOn (map_of h) (map_of n) ps qs (λ s. there (slot s a) (λ v. there (slot s b) (λ w. gives s to (Truth (same v w)))))
equal_goes h n ps qs to a b answer p held told is puts after s shows =
    equal_by (Leaves (map_of n) qs []) s a b to (slot s a) (slot s b) tt
    (λ v w left right. scalar_leaves h n s ps qs to (Truth answer) p (gives s to (Truth (same v w))) (ap (λ (c : Bool). gives s to (Truth c)) (told s v w shows left right))
    held (λ k. ap (holds k) is) puts after shows is)

pub left_beyond : (h : Heap) (ps : List Part) (a b : ℕ) → length ps ≤ a → ComparesNone h ps a b Stuck
left_beyond h ps a b beyond s d e shows left right = omega (arith, slot_within (map_of h) s ps a d shows left)

pub right_beyond : (h : Heap) (ps : List Part) (a b : ℕ) → length ps ≤ b → ComparesNone h ps a b Stuck
right_beyond h ps a b beyond s d e shows left right = omega (arith, slot_within (map_of h) s ps b e shows right)
