use Rattle.std.proofs.Common.{◌≤◌, ◌+◌, ◌-◌, ◌++◌, List, length, drop, vec_len}
use Rattle.std.specs.Prelude.{vec_capacity}
use Rattle.wy_heap.specs.declared.part.Slot.{Slot}
use Rattle.wy_mach.specs.Paths.{AreSlotsOf, LacksSlots}
use Rattle.wy_mach.proofs.paths.slots.Given as goal

abbrev pub invariant-loop-i : goal.invariant-loop-i
invariant-loop-i l = record {
  more : (rest : List Slot) → AreSlotsOf l.heap l.registers (drop l.i l.steps) rest → AreSlotsOf l.heap l.registers l.steps (l.path.items ++ rest);
  none : LacksSlots l.heap l.registers (drop l.i l.steps) → LacksSlots l.heap l.registers l.steps;
  room : vec_len l.path + (length l.steps - l.i) ≤ vec_capacity l.path;
  kept : vec_capacity l.fn.path ≤ vec_capacity l.path;
}
