use Rattle.std.proofs.Common.{◌≡◌, drop}
use Rattle.wy_lin_eliminate.specs.Division as division
use Rattle.wy_lin_eliminate.proofs.division.common.Given as goal

abbrev pub invariant-loop-part : goal.invariant-loop-part
invariant-loop-part l = division.common_from l.found (drop l.part-index l.parts) ≡ division.common_from 0 l.parts
