-- A part of what a register holds comes into another one.
use Rattle.std.proofs.Common.{◌≡◌, ℕ, ◌<◌, ◌≤◌, List, [], length, get_or, set, slice_get, Option, Some, None, refl, sym, ◌∙◌, ap, subst, arith}
use Rattle.wy_value.specs.Datum.{Datum, Null, Truth, Whole, Array, Record, Fields}
use Rattle.wy_value.specs.declared.shapes.Shapes.{Shapes}
use Rattle.wy_heap.specs.declared.part.Part.{Part}
use Rattle.wy_heap.specs.declared.part.Part.TheVariants as part
use Rattle.wy_heap.specs.declared.part.Slot as heap_slot
use Rattle.wy_heap.specs.declared.part.Slot.TheVariants.{Field}
use Rattle.wy_heap.specs.declared.heap.Heap.{Heap}
use Rattle.wy_heap.specs.Nodes.{map_of}
use Rattle.wy_heap.specs.Meaning.{Means}
use Rattle.wy_heap.specs.Extending.{Extends}
use Rattle.wy_heap.specs.Slots.{Step, HasStep, child, step_of, field_step, IsSlot}
use Rattle.wy_heap.proofs.MeaningLemmas.{means_unique}
use Rattle.wy_sem.specs.Operations.{find}
use Rattle.wy_sem.specs.Expressions.{Store, slot, put}
use Rattle.wy_code_spec.specs.step.Step.{Effect, Fails, there, as_fields, gives}
use Rattle.wy_mach.specs.declared.stop.Stop.{Stop}
use Rattle.wy_mach.specs.declared.stop.Stop.TheVariants.{Stuck, NoMemory}
use Rattle.wy_mach.specs.Showing.{Shows, Leaves, WentOn, IsStop, AreRegisters, Puts}
use Rattle.wy_mach.specs.Parts.{GivesPart, LacksPart}
use Rattle.wy_mach.proofs.EffectLemmas.{by_there}
use Rattle.wy_mach.proofs.RegisterLemmas.{shows_slot, slot_within}
use Rattle.wy_mach.proofs.MoveLemmas.{Seconds, second_shows}
use Rattle.wy_mach.proofs.FieldLemmas.{find-nth, find_within}

pub gives_part : (h n o : Heap) (ps qs : List Part) (to from : ℕ) (s : heap_slot.Slot) (p made : Part) → p ≡ get_or ps from part.Null → from < length ps → AreRegisters h ps → IsSlot h p s → Seconds h n p made → ((d : Datum) → Means (map_of h) d p → Means (map_of n) (child d (step_of h.shapes s)) made) → Puts n o ps made qs → qs ≡ set ps to made → GivesPart h o ps qs to from (step_of h.shapes s)
gives_part h n o ps qs to from s p made is below held there_is seconds value puts after store d shows holds_d =
    let means : Means (map_of h) d p = subst (Means (map_of h) d) (sym is) (shows_slot (map_of h) store ps from d shows holds_d) in
    let same : there_is.0 ≡ d = means_unique (map_of h) there_is.0 d p there_is.1 means in (
      subst (λ (e : Datum). HasStep e (step_of h.shapes s)) same there_is.2,
      second_shows h n o store p made ps qs from to (child d (step_of h.shapes s)) is below held seconds puts after shows (value d means),
    )

pub lacks_beyond : (h : Heap) (ps : List Part) (from : ℕ) (step : Step) → length ps ≤ from → LacksPart h ps from step Stuck
lacks_beyond h ps from step beyond store d shows holds_d has = omega (arith, slot_within (map_of h) store ps from d shows holds_d)

pub lacks_slot : (h : Heap) (ps : List Part) (from : ℕ) (s : heap_slot.Slot) (p : Part) → p ≡ get_or ps from part.Null → (IsSlot h p s → ⊥) → LacksPart h ps from (step_of h.shapes s) Stuck
lacks_slot h ps from s p is none store d shows holds_d has =
    none (d, subst (Means (map_of h) d) (sym is) (shows_slot (map_of h) store ps from d shows holds_d), has)

pub lacks_by : (h : Heap) (ps : List Part) (from : ℕ) (s : heap_slot.Slot) (p : Part) (stop : Stop) → p ≡ get_or ps from part.Null → (stop ≡ Stuck → IsSlot h p s → ⊥) → LacksPart h ps from (step_of h.shapes s) stop
lacks_by h ps from s p Stuck is none = lacks_slot h ps from s p is (none refl)
lacks_by h ps from s p NoMemory is none = tt

-- ---- fields

-- the effect of `Field`, from what is owed where the field is there
field_by : (P : Effect → Type 0) (t : Shapes) (f to : ℕ) (s : Store) (o : Option Datum) → P Fails
    → ((fs : Fields) (name : List ℕ) (found : Datum) → o ≡ Some (Record fs) → slice_get t.names f ≡ Some name → find fs name ≡ Some found → P (gives s to found))
    → P (there o (λ v. as_fields v (λ fs. there (slice_get t.names f) (λ name. there (find fs name) (λ found. gives s to found)))))
field_by P t f to s None fails goes = fails
field_by P t f to s (Some Null) fails goes = fails
field_by P t f to s (Some (Truth b)) fails goes = fails
field_by P t f to s (Some (Whole z)) fails goes = fails
field_by P t f to s (Some (Array ds)) fails goes = fails
field_by P t f to s (Some (Record fs)) fails goes =
    by_there P (slice_get t.names f) (λ name. there (find fs name) (λ found. gives s to found)) fails
    (λ name named. by_there P (find fs name) (λ found. gives s to found) fails (λ found is. goes fs name found refl named is))

pub field_goes : (h o : Heap) (t : Shapes) (ps qs : List Part) (to from f : ℕ) → Extends t h.shapes → GivesPart h o ps qs to from (step_of h.shapes (Field f))
    → WentOn (map_of h) (map_of o) ps qs (λ s. there (slot s from) (λ v. as_fields v (λ fs. there (slice_get t.names f) (λ name. there (find fs name) (λ found. gives s to found)))))
field_goes h o t ps qs to from f extends given s shows =
    field_by (Leaves (map_of o) qs []) t f to s (slot s from) tt
    (λ fs name found is named there_is.
    let step = ap field_step (extends.names f name named) in
    let part_is : child (Record fs) (step_of h.shapes (Field f)) ≡ found = ap (child (Record fs)) step ∙ find-nth fs name found there_is in
    (subst (λ (d : Datum). Shows (map_of o) (put s to (Some d)) qs) part_is (given s (Record fs) shows is).1, refl))

pub field_stops : (h : Heap) (t : Shapes) (ps : List Part) (to from f : ℕ) (stop : Stop) → Extends t h.shapes → LacksPart h ps from (step_of h.shapes (Field f)) stop
    → IsStop (map_of h) ps (λ s. there (slot s from) (λ v. as_fields v (λ fs. there (slice_get t.names f) (λ name. there (find fs name) (λ found. gives s to found))))) stop
field_stops h t ps to from f Stuck extends lacks = λ s shows.
    field_by (λ (e : Effect). e ≡ Fails) t f to s (slot s from) refl
    (λ fs name found is named there_is.
    absurd (lacks s (Record fs) shows is (subst (HasStep (Record fs)) (sym (ap field_step (extends.names f name named))) (find_within fs name found there_is))))
field_stops h t ps to from f NoMemory extends lacks = tt
