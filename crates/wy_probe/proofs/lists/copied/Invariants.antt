use Rattle.std.proofs.Common.{◌≡◌, ◌++◌, drop}
use Rattle.wy_probe.proofs.lists.copied.Given as goal

abbrev pub invariant-loop-value : goal.invariant-loop-value
invariant-loop-value l = l.made ++ drop l.value-index l.values ≡ l.values
