use Rattle.std.proofs.Common.{◌≡◌}
use Rattle.wy_graph.specs.closure.Work.{below}
use Rattle.wy_graph.proofs.closure.closing.numbers_below.Given as goal

abbrev pub invariant-loop-number : goal.invariant-loop-number
invariant-loop-number l = l.made ≡ below l.number
