use Rattle.std.proofs.Common.{◌≡◌, [], drop}
use Rattle.wy_subtype_parts.specs.Fields as at_field
use Rattle.wy_subtype_parts.proofs.record_fields.values_at.Given as goal

abbrev pub invariant-loop-way : goal.invariant-loop-way
invariant-loop-way l = record { value : at_field.values_at l.table l.depth l.name l.all (drop l.way-index l.ways) ≡ at_field.values_at l.table l.depth l.name [] l.ways; width : at_field.narrow_values l.table l.depth l.name (drop l.way-index l.ways) ≡ at_field.narrow_values l.table l.depth l.name l.ways }
