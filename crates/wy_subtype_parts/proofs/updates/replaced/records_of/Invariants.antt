use Rattle.std.proofs.Common.{◌≡◌, [], drop}
use Rattle.wy_subtype_parts.specs.updates.Updates as spec
use Rattle.wy_subtype_parts.proofs.updates.replaced.records_of.Given as goal

abbrev pub invariant-loop-way : goal.invariant-loop-way
invariant-loop-way l = spec.records_of l.name l.terms l.all (drop l.way-index l.ways) ≡ spec.records_of l.name l.terms [] l.ways
