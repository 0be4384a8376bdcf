use Rattle.std.proofs.Common.{◌≡◌, ◌++◌, drop}
use Rattle.wy_subtype.specs.Valued as valued
use Rattle.wy_subtype.proofs.valued.marked.Given as goal

abbrev pub invariant-loop-number : goal.invariant-loop-number
invariant-loop-number l = (l.made ++ valued.marked l.marks l.conjuncts (drop l.number-index l.numbers)) ≡ valued.marked l.marks l.conjuncts l.numbers
