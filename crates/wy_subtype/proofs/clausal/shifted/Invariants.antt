use Rattle.std.proofs.Common.{◌≡◌, ◌++◌, drop}
use Rattle.wy_subtype.specs.Clausal as clausal
use Rattle.wy_subtype.proofs.clausal.shifted.Given as goal

abbrev pub invariant-loop-number : goal.invariant-loop-number
invariant-loop-number l = (l.made ++ clausal.shifted l.base (drop l.number-index l.numbers)) ≡ clausal.shifted l.base l.numbers
