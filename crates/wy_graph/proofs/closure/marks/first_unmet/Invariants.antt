use Rattle.std.proofs.Common.{◌≡◌, ◌-◌, length, take, true}
use Rattle.wy_graph.specs.closure.Marks as marking
use Rattle.wy_graph.proofs.closure.marks.first_unmet.Given as goal

abbrev pub invariant-loop-first : goal.invariant-loop-first
invariant-loop-first l = marking.each_marked l.marks (take l.first l.lists) ≡ true

abbrev pub decreases-loop-first : goal.decreases-loop-first
decreases-loop-first l = length l.lists - l.first
