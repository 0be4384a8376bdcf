use Rattle.std.proofs.Common.{◌≡◌, drop}
use Rattle.wy_subtype_parts.specs.Fields as at_field
use Rattle.wy_subtype_parts.proofs.record_fields.has_field.Given as goal

abbrev pub invariant-loop-field : goal.invariant-loop-field
invariant-loop-field l = at_field.has_field l.name (drop l.field-index l.fields) ≡ at_field.has_field l.name l.fields
