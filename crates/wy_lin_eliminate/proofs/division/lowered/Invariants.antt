use Rattle.std.proofs.Common.{◌≡◌, drop}
use Rattle.std.proofs.Common.{[]}
use Rattle.wy_lin_eliminate.specs.Division as division
use Rattle.wy_lin_eliminate.proofs.division.lowered.Given as goal

abbrev pub invariant-loop-part : goal.invariant-loop-part
invariant-loop-part l = division.divided_from l.d l.parts.items (drop l.part-index l.form.parts.items) ≡ division.divided_from l.d [] l.form.parts.items
