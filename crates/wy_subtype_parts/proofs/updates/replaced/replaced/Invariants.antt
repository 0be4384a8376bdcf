use Rattle.std.proofs.Common.{◌≡◌, ◌++◌, drop}
use Rattle.wy_subtype_parts.specs.updates.Updates as spec
use Rattle.wy_subtype_parts.proofs.updates.replaced.replaced.Given as goal

abbrev pub invariant-loop-field : goal.invariant-loop-field
invariant-loop-field l = l.made ++ spec.replaced l.name l.terms (drop l.field-index l.way) ≡ spec.replaced l.name l.terms l.way
