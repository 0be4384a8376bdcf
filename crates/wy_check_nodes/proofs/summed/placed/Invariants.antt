use Rattle.std.proofs.Common.{◌≡◌, ◌++◌, drop}
use Rattle.wy_check_nodes.specs.Gathered.{placed}
use Rattle.wy_check_nodes.proofs.summed.placed.Given as goal

abbrev pub invariant-loop-k : goal.invariant-loop-k
invariant-loop-k l = l.multipliers.items ++ placed l.k (drop l.k l.pairs) ≡ placed 0 l.pairs
