use Rattle.std.proofs.Common.{◌≡◌, drop}
use Rattle.wy_heap.specs.Nodes.{map_of}
use Rattle.wy_heap.specs.Changing.{Lasts}
use Rattle.wy_mach.specs.Taking.{emptied}
use Rattle.wy_mach.proofs.MoveLemmas.{Clears}
use Rattle.wy_mach.proofs.moving.clear.Given as goal

abbrev pub invariant-loop-number : goal.invariant-loop-number
invariant-loop-number l = record {
  clears : Clears l.fn.heap l.heap l.fn.registers l.registers l.fn.numbers (drop l.number-index l.numbers);
  shapes : l.heap.shapes ≡ l.fn.heap.shapes;
  cap : l.heap.cap ≡ l.fn.heap.cap;
  copies : l.heap.copies ≡ l.fn.heap.copies;
  empties : emptied l.registers (drop l.number-index l.numbers) ≡ emptied l.fn.registers l.fn.numbers;
  lasts : Lasts (map_of l.fn.heap) (map_of l.heap);
}
