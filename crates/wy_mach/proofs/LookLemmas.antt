-- The instructions that look at arrays.
use Rattle.std.proofs.Common.{◌≡◌, ℕ, ◌<◌, ◌≤◌, List, length, get_or, set, Option, Some, None, pos, refl, sym, ◌∙◌, ap}
use Rattle.wy_value.specs.Datum.{Datum, Null, Truth, Whole, Array, Record}
use Rattle.wy_value.specs.Values.{length_of}
use Rattle.wy_heap.specs.declared.part.Part.{Part}
use Rattle.wy_heap.specs.declared.part.Part.TheVariants as part
use Rattle.wy_heap.specs.declared.heap.Heap.{Heap}
use Rattle.wy_heap.specs.Nodes.{Map, map_of, holds}
use Rattle.wy_heap.specs.Meaning.{Means}
use Rattle.wy_sem.specs.Expressions.{slot}
use Rattle.wy_code_spec.specs.step.Step.{Effect, there, as_items, gives}
use Rattle.wy_mach.specs.Showing.{ShowsSlot, WentOn, AreRegisters, Puts}
use Rattle.wy_mach.specs.Operands.{Reads}
use Rattle.wy_mach.specs.Looking.{length_in}
use Rattle.wy_mach.proofs.RegisterLemmas.{shows_at, slot_beyond}
use Rattle.wy_mach.proofs.NumberLemmas.{there_some, scalar_leaves}

length_shown : (m : Map) (o : Option Datum) (p : Part) (r : Option ℕ) → ShowsSlot m o p → ((d : Datum) → Means m d p → r ≡ length_in (Some d)) → r ≡ length_in o
length_shown m None p r shows of = of Null shows
length_shown m (Some d) p r shows of = of d shows

pub length_read : (h : Heap) (ps : List Part) (i : ℕ) (r : Option ℕ) → i < length ps → ((d : Datum) → Means (map_of h) d (get_or ps i part.Null) → r ≡ length_in (Some d)) → Reads h ps i length_in r
length_read h ps i r below of s shows = length_shown (map_of h) (slot s i) (get_or ps i part.Null) r (shows_at (map_of h) s ps i shows below) of

pub length_beyond : (h : Heap) (ps : List Part) (i : ℕ) → length ps ≤ i → Reads h ps i length_in None
length_beyond h ps i beyond s shows = sym (ap length_in (slot_beyond (map_of h) s ps i shows beyond))

-- ---- the effect of `Len`

length-there : (o : Option Datum) (next : ℕ → Effect) → there o (λ v. as_items v (λ ds. next (length_of ds))) ≡ there (length_in o) next
length-there None next = refl
length-there (Some Null) next = refl
length-there (Some (Truth b)) next = refl
length-there (Some (Whole z)) next = refl
length-there (Some (Array ds)) next = refl
length-there (Some (Record fs)) next = refl

pub length_goes : (h n : Heap) (ps qs : List Part) (to a count : ℕ) (p : Part) → AreRegisters h ps → Reads h ps a length_in (Some count) → p ≡ part.Int (pos count) → Puts h n ps p qs → qs ≡ set ps to p
    → WentOn (map_of h) (map_of n) ps qs (λ s. there (slot s a) (λ v. as_items v (λ ds. gives s to (Whole (pos (length_of ds))))))
length_goes h n ps qs to a count p held reads is_count puts after s shows =
    scalar_leaves h n s ps qs to (Whole (pos count)) p (there (slot s a) (λ v. as_items v (λ ds. gives s to (Whole (pos (length_of ds))))))
    (length-there (slot s a) (λ c. gives s to (Whole (pos c))) ∙ there_some (length_in (slot s a)) (λ c. gives s to (Whole (pos c))) count (sym (reads s shows)))
    held (λ k. ap (holds k) is_count) puts after shows is_count
