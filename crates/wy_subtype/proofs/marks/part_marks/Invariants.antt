use Rattle.std.proofs.Common.{◌≡◌, ◌++◌, drop}
use Rattle.wy_subtype.specs.Marks as marking
use Rattle.wy_subtype.proofs.marks.part_marks.Given as goal

abbrev pub invariant-loop-head : goal.invariant-loop-head
invariant-loop-head l = (l.held ++ marking.part_marks l.marks (drop l.head-index l.heads)) ≡ marking.part_marks l.marks l.heads
