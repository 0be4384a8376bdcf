use Rattle.std.proofs.Common.{◌≡◌, ◌+◌, drop}
use Rattle.wy_heap.specs.Numbering.{number_position}
use Rattle.wy_heap.proofs.slots.number_place.Given as goal

abbrev pub invariant-loop-i : goal.invariant-loop-i
invariant-loop-i l = number_position l.number l.list ≡ l.i + number_position l.number (drop l.i l.list)
