use Rattle.std.proofs.Common.{◌≡◌}
use Rattle.wy_names_lower.proofs.types.listed.Given as goal

abbrev pub invariant-loop-name : goal.invariant-loop-name
invariant-loop-name l = l.items ≡ l.yielded
