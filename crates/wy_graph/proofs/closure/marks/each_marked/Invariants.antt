use Rattle.std.proofs.Common.{◌≡◌, drop}
use Rattle.wy_graph.specs.closure.Marks as marking
use Rattle.wy_graph.proofs.closure.marks.each_marked.Given as goal

abbrev pub invariant-loop-numbers : goal.invariant-loop-numbers
invariant-loop-numbers l = marking.each_marked l.marks (drop l.numbers-index l.lists) ≡ marking.each_marked l.marks l.lists
