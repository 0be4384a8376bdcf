-- When a step on shared nodes has room below the cap.
use Rattle.std.specs.Prelude.{◌≡◌, ℕ, ◌<◌, pos, List, Some, slice_set, ⊤}
use Rattle.wy_heap.specs.declared.part.Part.TheVariants.{Null, Int}
use Rattle.wy_heap.specs.Slots.{Step}
use Rattle.wy_code.specs.declared.instructions.Slot.{Slot}
use Rattle.wy_code.specs.declared.instructions.Instr.{Instr}
use Rattle.wy_code.specs.declared.instructions.Instr.TheVariants as instr
use Rattle.wy_code.specs.declared.routines.Code.{Code}
use Rattle.wy_mach.specs.Sharing.{part_in}
use Rattle.wy_mach.specs.SharedSteps.{Shared, holders, LeadAlong, HaveOne, HasRoom, TakesMemory, ShareStep, instr_next}

-- each key has fewer holders than the cap
abbrev pub NoneFull : ℕ → Shared → Type 0
NoneFull cap st = (k : ℕ) → holders st k < cap

-- the instruction adds one holder at most, and an index that it has is a number from 0 on
abbrev pub AddsOne : Instr → Shared → Type 0
AddsOne (instr.Fill d v n) st = ⊥
AddsOne (instr.Put a path v) st = ⊥
AddsOne (instr.Get d a i) st = (k : ℕ) × (part_in st.registers i ≡ Int (pos k))
AddsOne _ st = ⊤

-- each node on the path of the write has one holder
abbrev pub IsInPlace : Shared → ℕ → List Slot → ℕ → Type 0
IsInPlace st whole steps from =
    (path : List Step) × LeadAlong st.shapes st.registers steps path × HaveOne (holders st) st.nodes (part_in (slice_set st.registers from Null) whole) path

-- such instructions have room, and a write in place takes no memory
pub record RoomBelowCap : Type 0 where
  pub one : (cap : ℕ) (st : Shared) (i : Instr) → NoneFull cap st → AddsOne i st → HasRoom cap i st
  pub in_place : (cap : ℕ) (st : Shared) (whole : ℕ) (steps : List Slot) (from : ℕ) → IsInPlace st whole steps from → HasRoom cap (instr.Put whole steps from) st
  pub no_memory : (cap : ℕ) (st : Shared) (whole : ℕ) (steps : List Slot) (from : ℕ) → IsInPlace st whole steps from → TakesMemory cap (instr.Put whole steps from) st → ⊥

-- a state determines how many nodes its next step copies
abbrev pub CopiesAreOne : Type 0
CopiesAreOne = (code : Code) (st one other : Shared) (copied more : ℕ) → ShareStep code st one copied → ShareStep code st other more → copied ≡ more

-- where the instruction is a write, each node on its path has one holder
abbrev pub HasNoSecond : Instr → Shared → Type 0
HasNoSecond (instr.Put a path v) st = IsInPlace st a path v
HasNoSecond _ st = ⊤

-- a step copies nodes only where it writes below one with a second holder
abbrev pub NoneAreCopied : Type 0
NoneAreCopied = (code : Code) (st new : Shared) (i : Instr) (copied : ℕ) → ShareStep code st new copied → instr_next code st ≡ Some i → HasNoSecond i st → copied ≡ 0
