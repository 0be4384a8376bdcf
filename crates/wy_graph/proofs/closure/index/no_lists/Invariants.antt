use Rattle.std.proofs.Common.{◌≡◌, length}
use Rattle.wy_graph.proofs.closure.index.no_lists.Given as goal

abbrev pub invariant-loop-number : goal.invariant-loop-number
invariant-loop-number l = length l.made.items ≡ l.number
