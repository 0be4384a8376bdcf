use Rattle.std.proofs.Common.{◌≡◌, drop}
use Rattle.wy_names_expand.specs.Sizes.{in_field_tys, seen_field_tys}
use Rattle.wy_names_expand.proofs.expressions.+ty.Given as goal

abbrev pub invariant-in_field_tys-loop-field : goal.invariant-in_field_tys-loop-field
invariant-in_field_tys-loop-field l = in_field_tys l.spot (seen_field_tys (drop l.field-index l.fields)) l.measure ≡ in_field_tys l.spot (seen_field_tys l.fields) l.fn.measure
