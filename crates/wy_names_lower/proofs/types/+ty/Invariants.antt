use Rattle.std.proofs.Common.{◌≡◌, [], drop}
use Rattle.wy_names_lower.specs.TypesLowered.{in_fields}
use Rattle.wy_names_lower.specs.SeenPairs.{surface_field_tys, typed_pairs}
use Rattle.wy_names_lower.proofs.types.+ty.Given as goal

abbrev pub invariant-in_fields-loop-field : goal.invariant-in_fields-loop-field
invariant-in_fields-loop-field l = in_fields l.scope (typed_pairs l.map.entries) (surface_field_tys (drop l.field-index l.fields)) ≡ in_fields l.scope [] (surface_field_tys l.fields)
