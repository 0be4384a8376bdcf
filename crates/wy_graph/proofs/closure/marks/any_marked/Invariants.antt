use Rattle.std.proofs.Common.{◌≡◌, drop}
use Rattle.wy_graph.specs.closure.Marks as marking
use Rattle.wy_graph.proofs.closure.marks.any_marked.Given as goal

abbrev pub invariant-loop-number : goal.invariant-loop-number
invariant-loop-number l = marking.any_marked l.marks (drop l.number-index l.numbers) ≡ marking.any_marked l.marks l.numbers
