use Rattle.std.proofs.Common.{◌≡◌, ◌++◌, drop, map}
use Rattle.wy_names_lower.specs.Templates.{stands}
use Rattle.wy_names_lower.proofs.templates.are_used.Given as goal

abbrev pub invariant-loop-parameter : goal.invariant-loop-parameter
invariant-loop-parameter l = l.used ++ map stands (drop l.parameter-index l.uses) ≡ map stands l.uses
