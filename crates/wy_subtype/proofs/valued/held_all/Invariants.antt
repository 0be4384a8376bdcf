use Rattle.std.proofs.Common.{◌≡◌, ◌++◌, drop}
use Rattle.wy_subtype.specs.Valued as valued
use Rattle.wy_subtype.proofs.valued.held_all.Given as goal

abbrev pub invariant-loop-number : goal.invariant-loop-number
invariant-loop-number l = (l.made ++ valued.held_all l.table l.depth l.marks l.held l.reach.conjuncts l.reach.asks (drop l.number-index l.numbers)) ≡ valued.held_all l.table l.depth l.marks l.held l.reach.conjuncts l.reach.asks l.numbers
