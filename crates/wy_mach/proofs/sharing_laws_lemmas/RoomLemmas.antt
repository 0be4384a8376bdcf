-- Room below the cap.
use Rattle.std.proofs.Common.{◌≡◌, ℕ, ℤ, List, [], ◌∷◌, set, sym, ◌∙◌, ap, subst, arith}
use Rattle.std.specs.Prelude.{min}
use Rattle.wy_value.specs.declared.shapes.Shapes.{Shapes}
use Rattle.wy_heap.specs.declared.part.Part.{Part}
use Rattle.wy_heap.specs.declared.part.Part.TheVariants.{Null, Int}
use Rattle.wy_heap.specs.Nodes.{Map}
use Rattle.wy_heap.specs.Slots.{Step, item_at, part_at}
use Rattle.wy_code.specs.declared.instructions.Slot.{Slot}
use Rattle.wy_code.specs.declared.instructions.Slot.TheVariants as path_step
use Rattle.wy_code.specs.declared.instructions.Instr.{Instr}
use Rattle.wy_code.specs.declared.instructions.Instr.TheVariants as instr
use Rattle.wy_sem.specs.Operations.{nat_of}
use Rattle.wy_mach.specs.Sharing.{part_in}
use Rattle.wy_mach.specs.SharedSteps.{Shared, holders, LeadsTo, LeadAlong, HaveOne, WriteFits, CanTake, HasRoom, TakesMemory}
use Rattle.wy_mach.specs.sharing_laws.Room.{NoneFull, AddsOne, IsInPlace, RoomBelowCap}

can_take : (cap : ℕ) (st : Shared) (p : Part) → NoneFull cap st → CanTake (holders st) cap p 1
can_take cap st p none k is = omega (arith, none k)

one : (cap : ℕ) (st : Shared) (i : Instr) → NoneFull cap st → AddsOne i st → HasRoom cap i st
one cap st (instr.Const d c) none adds = tt
one cap st (instr.Move d r) none adds = tt
one cap st (instr.Share d r) none adds = can_take cap st (part_in st.registers r) none
one cap st (instr.Clear rs) none adds = tt
one cap st (instr.Arith d op a b) none adds = tt
one cap st (instr.Compare d op a b) none adds = tt
one cap st (instr.Equal d a b) none adds = tt
one cap st (instr.Not d a) none adds = tt
one cap st (instr.Jump t) none adds = tt
one cap st (instr.Branch r t) none adds = tt
one cap st (instr.Array d rs) none adds = tt
one cap st (instr.Record d n rs) none adds = tt
one cap st (instr.Fill d v n) none adds = absurd adds
one cap st (instr.Len d a) none adds = tt
one cap st (instr.Get d a i) none adds = (adds.0, adds.1, λ k is. omega (arith, none k))
one cap st (instr.Field d a f) none adds = λ k is. omega (arith, none k)
one cap st (instr.Put a path v) none adds = absurd adds
one cap st (instr.Kind d a n) none adds = tt
one cap st (instr.Call d f rs) none adds = tt
one cap st (instr.Return r) none adds = tt
one cap st (instr.Print a) none adds = tt
one cap st (instr.PrintInt a) none adds = tt

-- ---- writes

same_int : (x y : ℤ) → Int x ≡ Int y → x ≡ y
same_int x y e = cc

-- a path of the code leads along one path of steps
step_unique : (t : Shapes) (ps : List Part) (x : Slot) (s u : Step) → LeadsTo t ps x s → LeadsTo t ps x u → s ≡ u
step_unique t ps (path_step.Item r) s u first second =
    let same = same_int first.0 second.0 (sym first.1 ∙ second.1) in
    first.3 ∙ ap (λ (z : ℤ). item_at (min (nat_of z) 18446744073709551615)) same ∙ sym second.3
step_unique t ps (path_step.Field f) s u first second = first ∙ sym second

pub path_unique : (t : Shapes) (ps : List Part) (xs : List Slot) (p q : List Step) → LeadAlong t ps xs p → LeadAlong t ps xs q → p ≡ q
path_unique t ps [] p q first second = first ∙ sym second
path_unique t ps (x ∷ xs) [] q first second = absurd first
path_unique t ps (x ∷ xs) (s ∷ p) [] first second = absurd second
path_unique t ps (x ∷ xs) (s ∷ p) (u ∷ q) first second =
    let here : s ≡ u = step_unique t ps x s u first.0 second.0 in
    let rest : p ≡ q = path_unique t ps xs p q first.1 second.1 in
    ap (λ (y : Step). y ∷ p) here ∙ ap (λ (l : List Step). u ∷ l) rest

fits : (count : ℕ → ℕ) (cap : ℕ) (m : Map) (path : List Step) (whole : Part) → HaveOne count m whole path → WriteFits count cap m whole path
fits count cap m [] whole have = tt
fits count cap m (s ∷ path) whole have = (
  (λ one. fits count cap m path (part_at m whole s) have.1),
  (λ many. absurd (many have.0)),
)

in_place : (cap : ℕ) (st : Shared) (whole : ℕ) (steps : List Slot) (from : ℕ) → IsInPlace st whole steps from → HasRoom cap (instr.Put whole steps from) st
in_place cap st whole steps from place = λ path lead.
    let p = part_in (set st.registers from Null) whole in
    subst (λ (l : List Step). WriteFits (holders st) cap st.nodes p l) (path_unique st.shapes st.registers steps place.0 path place.1 lead)
    (fits (holders st) cap st.nodes place.0 p place.2)

no_memory : (cap : ℕ) (st : Shared) (whole : ℕ) (steps : List Slot) (from : ℕ) → IsInPlace st whole steps from → TakesMemory cap (instr.Put whole steps from) st → ⊥
no_memory cap st whole steps from place second =
    let p = part_in (set st.registers from Null) whole in
    second.2 (subst (λ (l : List Step). HaveOne (holders st) st.nodes p l) (path_unique st.shapes st.registers steps place.0 second.0 place.1 second.1) place.2)

pub room_below : RoomBelowCap
room_below = record { one = one; in_place = in_place; no_memory = no_memory }
