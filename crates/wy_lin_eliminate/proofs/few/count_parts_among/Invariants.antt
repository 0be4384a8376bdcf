use Rattle.std.proofs.Common.{◌≡◌, drop}
use Rattle.wy_lin_eliminate.specs.Variables as variables
use Rattle.wy_lin_eliminate.proofs.few.count_parts_among.Given as goal

abbrev pub invariant-loop-part : goal.invariant-loop-part
invariant-loop-part l = variables.counted_parts l.found.items (drop l.part-index l.parts) ≡ variables.counted_parts l.initial.found.items l.parts
