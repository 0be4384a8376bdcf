use Rattle.std.proofs.Common.{◌≡◌, drop}
use Rattle.wy_names_recursion.specs.Rounds.{has}
use Rattle.wy_names_recursion.proofs.rounds.has.Given as goal

abbrev pub invariant-loop-other : goal.invariant-loop-other
invariant-loop-other l = has (drop l.other-index l.list) l.index ≡ has l.list l.index
