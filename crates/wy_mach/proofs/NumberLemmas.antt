-- The instructions on numbers and truth values.
use Rattle.std.proofs.Common.{◌≡◌, ℕ, List, [], set, Bool, not, Option, Some, None, ℤ, refl, sym, ◌∙◌, ap, subst}
use Rattle.wy_value.specs.Numbers.{is_int}
use Rattle.wy_value.specs.Datum.{Datum, Truth, Whole}
use Rattle.wy_heap.specs.declared.part.Part.{Part}
use Rattle.wy_heap.specs.declared.part.Part.TheVariants.{Int}
use Rattle.wy_heap.specs.declared.part.Part.TheVariants as part
use Rattle.wy_heap.specs.declared.heap.Heap.{Heap}
use Rattle.wy_heap.specs.Nodes.{map_of, holds}
use Rattle.wy_sem.specs.Expressions.{Store, slot}
use Rattle.wy_code.specs.declared.instructions.Arithmetic.{Arithmetic}
use Rattle.wy_code.specs.declared.instructions.Comparison.{Comparison}
use Rattle.wy_code_spec.specs.step.Step.{Effect, Fails, there, numbers, as_truth, gives, gives_int, computes, compares, where_so}
use Rattle.wy_mach.specs.Showing.{ShowsSlot, Shows, Leaves, WentOn, HasNone, AreRegisters, Puts}
use Rattle.wy_mach.specs.Operands.{number_in, truth_in, Reads}
use Rattle.wy_mach.proofs.RegisterLemmas.{scalar_shows}
use Rattle.wy_mach.proofs.OperandLemmas.{numbers-there, truth-there}

-- ---- what is read decides the effect

pub there_none : {X : Type 0} (o : Option X) (next : X → Effect) → o ≡ None → there o next ≡ Fails
there_none o next none = ap (λ x. there x next) none

pub there_some : {X : Type 0} (o : Option X) (next : X → Effect) (x : X) → o ≡ Some x → there o next ≡ next x
there_some o next x some = ap (λ y. there y next) some

two_numbers : (s : Store) (a b : ℕ) (next : ℤ → ℤ → Effect) (x y : ℤ) → number_in (slot s a) ≡ Some x → number_in (slot s b) ≡ Some y → numbers s a b next ≡ next x y
two_numbers s a b next x y left right =
    numbers-there s a b next
    ∙ there_some (number_in (slot s a)) (λ v. there (number_in (slot s b)) (λ w. next v w)) x left
    ∙ there_some (number_in (slot s b)) (λ w. next x w) y right

-- ---- stuck

pub result_stuck : (h : Heap) (ps : List Part) (to a b : ℕ) (op : Arithmetic) (x y : ℤ) → Reads h ps a number_in (Some x) → Reads h ps b number_in (Some y) → ((next : ℤ → Effect) → computes op x y (λ z. where_so (is_int z) (next z)) ≡ there None next)
    → HasNone (map_of h) ps (λ s. numbers s a b (λ v w. computes op v w (λ z. gives_int s to z)))
result_stuck h ps to a b op x y left right none s shows =
    two_numbers s a b (λ v w. computes op v w (λ z. gives_int s to z)) x y (sym (left s shows)) (sym (right s shows)) ∙ none (λ z. gives s to (Whole z))

-- ---- a scalar comes into a register

-- a scalar that the effect gives came into the register
pub scalar_leaves : (h n : Heap) (s : Store) (ps qs : List Part) (to : ℕ) (d : Datum) (p : Part) (e : Effect) → e ≡ gives s to d → AreRegisters h ps → ((k : ℕ) → holds k p ≡ 0) → Puts h n ps p qs → qs ≡ set ps to p → Shows (map_of h) s ps → ShowsSlot (map_of h) (Some d) p → Leaves (map_of n) qs [] e
scalar_leaves h n s ps qs to d p e is held none puts after shows here =
    subst (Leaves (map_of n) qs []) (sym is) (scalar_shows h n s ps qs to (Some d) p held none puts after shows here, refl)

pub arith_goes : (h n : Heap) (ps qs : List Part) (to a b : ℕ) (op : Arithmetic) (x y z : ℤ) (p : Part) → AreRegisters h ps → Reads h ps a number_in (Some x) → Reads h ps b number_in (Some y) → ((next : ℤ → Effect) → computes op x y (λ w. where_so (is_int w) (next w)) ≡ there (Some z) next) → p ≡ Int z → Puts h n ps p qs → qs ≡ set ps to p
    → WentOn (map_of h) (map_of n) ps qs (λ s. numbers s a b (λ v w. computes op v w (λ r. gives_int s to r)))
arith_goes h n ps qs to a b op x y z p held left right some is puts after s shows =
    scalar_leaves h n s ps qs to (Whole z) p (numbers s a b (λ v w. computes op v w (λ r. gives_int s to r)))
    (two_numbers s a b (λ v w. computes op v w (λ r. gives_int s to r)) x y (sym (left s shows)) (sym (right s shows)) ∙ some (λ r. gives s to (Whole r)))
    held (λ k. ap (holds k) is) puts after shows is

pub compare_goes : (h n : Heap) (ps qs : List Part) (to a b : ℕ) (op : Comparison) (x y : ℤ) (answer : Bool) (p : Part) → AreRegisters h ps → Reads h ps a number_in (Some x) → Reads h ps b number_in (Some y) → answer ≡ compares op x y → p ≡ part.Bool answer → Puts h n ps p qs → qs ≡ set ps to p
    → WentOn (map_of h) (map_of n) ps qs (λ s. numbers s a b (λ v w. gives s to (Truth (compares op v w))))
compare_goes h n ps qs to a b op x y answer p held left right told is puts after s shows =
    scalar_leaves h n s ps qs to (Truth answer) p (numbers s a b (λ v w. gives s to (Truth (compares op v w))))
    (two_numbers s a b (λ v w. gives s to (Truth (compares op v w))) x y (sym (left s shows)) (sym (right s shows)) ∙ ap (λ (c : Bool). gives s to (Truth c)) (sym told))
    held (λ k. ap (holds k) is) puts after shows is

pub negate_goes : (h n : Heap) (ps qs : List Part) (to a : ℕ) (b : Bool) (p : Part) → AreRegisters h ps → Reads h ps a truth_in (Some b) → p ≡ part.Bool (not b) → Puts h n ps p qs → qs ≡ set ps to p
    → WentOn (map_of h) (map_of n) ps qs (λ s. there (slot s a) (λ v. as_truth v (λ c. gives s to (Truth (not c)))))
negate_goes h n ps qs to a b p held reads is puts after s shows =
    scalar_leaves h n s ps qs to (Truth (not b)) p (there (slot s a) (λ v. as_truth v (λ c. gives s to (Truth (not c)))))
    (truth-there (slot s a) (λ c. gives s to (Truth (not c))) ∙ there_some (truth_in (slot s a)) (λ c. gives s to (Truth (not c))) b (sym (reads s shows)))
    held (λ k. ap (holds k) is) puts after shows is

-- the same result of the same numbers, spelled otherwise
pub computed_at : (op : Arithmetic) (x y a b : ℤ) (r : Option ℤ) → a ≡ x → b ≡ y → ((next : ℤ → Effect) → computes op a b (λ z. where_so (is_int z) (next z)) ≡ there r next) → (next : ℤ → Effect) → computes op x y (λ z. where_so (is_int z) (next z)) ≡ there r next
computed_at op x y a b r left right told next =
    sym (ap (λ (v : ℤ). computes op v b (λ z. where_so (is_int z) (next z))) left ∙ ap (λ (w : ℤ). computes op x w (λ z. where_so (is_int z) (next z))) right) ∙ told next
