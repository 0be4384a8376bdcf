use Rattle.std.proofs.Common.{◌≡◌, ◌++◌, take}
use Rattle.wy_names_lower.proofs.uses.put_names.Given as goal

abbrev pub invariant-loop-name : goal.invariant-loop-name
invariant-loop-name l = l.variables ≡ l.fn.variables ++ take l.name-index l.names
