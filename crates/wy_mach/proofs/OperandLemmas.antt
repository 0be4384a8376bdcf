-- What is read from registers, and what effects are by it.
use Rattle.std.proofs.Common.{◌≡◌, ℕ, ◌≤◌, ◌<◌, List, length, get_or, Bool, Option, Some, None, ℤ, refl, sym, ap}
use Rattle.wy_value.specs.Datum.{Datum, Null, Truth, Whole, Array, Record}
use Rattle.wy_value.specs.declared.shapes.Shapes.{Shapes}
use Rattle.wy_heap.specs.declared.part.Part.{Part}
use Rattle.wy_heap.specs.declared.part.Part.TheVariants as part
use Rattle.wy_heap.specs.declared.part.Kind as kind
use Rattle.wy_heap.specs.declared.heap.Heap.{Heap}
use Rattle.wy_heap.specs.Nodes.{Map, map_of}
use Rattle.wy_heap.specs.Meaning.{Means}
use Rattle.wy_heap.specs.Parts.{IsKind}
use Rattle.wy_sem.specs.Expressions.{Store, slot}
use Rattle.wy_code_spec.specs.step.Step.{Effect, Fails, there, as_number, as_truth, numbers}
use Rattle.wy_mach.specs.Showing.{ShowsSlot}
use Rattle.wy_mach.proofs.RegisterLemmas.{shows_at, slot_beyond}
use Rattle.wy_mach.specs.Operands.{number_in, truth_in, number_of, truth_of, Reads}

-- ---- kinds

number_kind : (t : Shapes) (d : Datum) (k : kind.Kind) → IsKind t d k → number_of k ≡ number_in (Some d)
number_kind t Null k of = ap number_of of
number_kind t (Truth b) k of = ap number_of of
number_kind t (Whole z) k of = ap number_of of
number_kind t (Array ds) k of = ap number_of of
number_kind t (Record fs) k of = ap number_of of.1

truth_kind : (t : Shapes) (d : Datum) (k : kind.Kind) → IsKind t d k → truth_of k ≡ truth_in (Some d)
truth_kind t Null k of = ap truth_of of
truth_kind t (Truth b) k of = ap truth_of of
truth_kind t (Whole z) k of = ap truth_of of
truth_kind t (Array ds) k of = ap truth_of of
truth_kind t (Record fs) k of = ap truth_of of.1

number_shown : (t : Shapes) (m : Map) (o : Option Datum) (p : Part) (k : kind.Kind) → ShowsSlot m o p → ((d : Datum) → Means m d p → IsKind t d k) → number_of k ≡ number_in o
number_shown t m None p k shows of = number_kind t Null k (of Null shows)
number_shown t m (Some d) p k shows of = number_kind t d k (of d shows)

truth_shown : (t : Shapes) (m : Map) (o : Option Datum) (p : Part) (k : kind.Kind) → ShowsSlot m o p → ((d : Datum) → Means m d p → IsKind t d k) → truth_of k ≡ truth_in o
truth_shown t m None p k shows of = truth_kind t Null k (of Null shows)
truth_shown t m (Some d) p k shows of = truth_kind t d k (of d shows)

pub number_read : (h : Heap) (ps : List Part) (r : ℕ) (k : kind.Kind) → r < length ps → ((d : Datum) → Means (map_of h) d (get_or ps r part.Null) → IsKind h.shapes d k) → Reads h ps r number_in (number_of k)
number_read h ps r k below of s shows = number_shown h.shapes (map_of h) (slot s r) (get_or ps r part.Null) k (shows_at (map_of h) s ps r shows below) of

pub truth_read : (h : Heap) (ps : List Part) (r : ℕ) (k : kind.Kind) → r < length ps → ((d : Datum) → Means (map_of h) d (get_or ps r part.Null) → IsKind h.shapes d k) → Reads h ps r truth_in (truth_of k)
truth_read h ps r k below of s shows = truth_shown h.shapes (map_of h) (slot s r) (get_or ps r part.Null) k (shows_at (map_of h) s ps r shows below) of

pub number_beyond : (h : Heap) (ps : List Part) (r : ℕ) → length ps ≤ r → Reads h ps r number_in None
number_beyond h ps r beyond s shows = sym (ap number_in (slot_beyond (map_of h) s ps r shows beyond))

pub truth_beyond : (h : Heap) (ps : List Part) (r : ℕ) → length ps ≤ r → Reads h ps r truth_in None
truth_beyond h ps r beyond s shows = sym (ap truth_in (slot_beyond (map_of h) s ps r shows beyond))

-- ---- effects by what is read

as_number-there : (w : Datum) (next : ℤ → Effect) → as_number w next ≡ there (number_in (Some w)) next
as_number-there Null next = refl
as_number-there (Truth b) next = refl
as_number-there (Whole z) next = refl
as_number-there (Array ds) next = refl
as_number-there (Record fs) next = refl

pub number-there : (o : Option Datum) (next : ℤ → Effect) → there o (λ v. as_number v next) ≡ there (number_in o) next
number-there None next = refl
number-there (Some v) next = as_number-there v next

numbers-none : (v : Datum) (next : ℤ → ℤ → Effect) → there (number_in (Some v)) (λ x. Fails) ≡ Fails
numbers-none Null next = refl
numbers-none (Truth b) next = refl
numbers-none (Whole z) next = refl
numbers-none (Array ds) next = refl
numbers-none (Record fs) next = refl

numbers-some : (v w : Datum) (next : ℤ → ℤ → Effect) → as_number v (λ x. as_number w (λ y. next x y)) ≡ there (number_in (Some v)) (λ x. there (number_in (Some w)) (λ y. next x y))
numbers-some Null w next = refl
numbers-some (Truth b) w next = refl
numbers-some (Whole z) w next = as_number-there w (λ y. next z y)
numbers-some (Array ds) w next = refl
numbers-some (Record fs) w next = refl

numbers-of : (o p : Option Datum) (next : ℤ → ℤ → Effect) → there o (λ v. there p (λ w. as_number v (λ x. as_number w (λ y. next x y)))) ≡ there (number_in o) (λ x. there (number_in p) (λ y. next x y))
numbers-of None p next = refl
numbers-of (Some v) None next = sym (numbers-none v next)
numbers-of (Some v) (Some w) next = numbers-some v w next

-- two numbers, by what is read of them
pub numbers-there : (s : Store) (a b : ℕ) (next : ℤ → ℤ → Effect) → numbers s a b next ≡ there (number_in (slot s a)) (λ x. there (number_in (slot s b)) (λ y. next x y))
numbers-there s a b next = numbers-of (slot s a) (slot s b) next

as_truth-there : (w : Datum) (next : Bool → Effect) → as_truth w next ≡ there (truth_in (Some w)) next
as_truth-there Null next = refl
as_truth-there (Truth b) next = refl
as_truth-there (Whole z) next = refl
as_truth-there (Array ds) next = refl
as_truth-there (Record fs) next = refl

pub truth-there : (o : Option Datum) (next : Bool → Effect) → there o (λ v. as_truth v next) ≡ there (truth_in o) next
truth-there None next = refl
truth-there (Some v) next = as_truth-there v next
