-- The slots of a heap that the steps of a path lead to, and what is written at their end.
use Rattle.std.specs.Prelude.{◌≡◌, List, [], ◌∷◌, Some, true, ℤ, pos, int_le, min}
use Rattle.wy_value.specs.Datum.{Datum, Null}
use Rattle.wy_value.specs.declared.shapes.Shapes.{Shapes}
use Rattle.wy_heap.specs.declared.part.Part.{Part}
use Rattle.wy_heap.specs.declared.part.Slot as of_heap
use Rattle.wy_heap.specs.declared.part.Slot.TheVariants.{Item, Field}
use Rattle.wy_heap.specs.declared.heap.Heap.{Heap}
use Rattle.wy_heap.specs.Nodes.{map_of}
use Rattle.wy_heap.specs.Slots as heap_slots
use Rattle.wy_heap.specs.Slots.{Step}
use Rattle.wy_code.specs.declared.instructions.Slot as of_code
use Rattle.wy_code.specs.declared.instructions.Slot.TheVariants as path_step
use Rattle.wy_sem.specs.Operations.{nat_of, Slot}
use Rattle.wy_sem.specs.Expressions.{Store}
use Rattle.wy_code_spec.specs.step.Step.{Effect, Fails, slots_of}
use Rattle.wy_mach.specs.Showing.{Shows}
use Rattle.wy_mach.specs.Operands.{number_in, Reads}

-- the step leads to the slot: to the field of the same name, or to the item whose index a register holds. The greatest index stands for each beyond it
abbrev pub IsSlotOf : Heap → List Part → of_code.Slot → of_heap.Slot → Type 0
IsSlotOf h ps (path_step.Item r) s = (z : ℤ) × Reads h ps r number_in (Some z) × (int_le (pos 0) z ≡ true) × (s ≡ Item (min (nat_of z) 18446744073709551615))
IsSlotOf h ps (path_step.Field f) s = s ≡ Field f

-- the steps lead to these slots, each to the one in its place
abbrev pub AreSlotsOf : Heap → List Part → List of_code.Slot → List of_heap.Slot → Type 0
AreSlotsOf h ps [] path = path ≡ []
AreSlotsOf h ps (step ∷ steps) [] = ⊥
AreSlotsOf h ps (step ∷ steps) (s ∷ path) = IsSlotOf h ps step s × AreSlotsOf h ps steps path

-- whatever the registers show, the steps lead nowhere
abbrev pub LacksSlots : Heap → List Part → List of_code.Slot → Type 0
LacksSlots h ps steps = (t : Shapes) (s : Store) (next : List Slot → Effect) → Shows (map_of h) s ps → slots_of t s steps next ≡ Fails

-- the step leads nowhere: what its register shows is no number, or one below 0
abbrev pub LacksSlot : Heap → List Part → of_code.Slot → Type 0
LacksSlot h ps step = (rest : List of_code.Slot) → LacksSlots h ps (step ∷ rest)

-- of a datum and a second one, the second one with the first at the end of the path
abbrev pub written_made : List Step → List Datum → Datum
written_made path [] = Null
written_made path (u ∷ []) = Null
written_made path (u ∷ w ∷ ds) = heap_slots.put w path u
