use Rattle.std.proofs.Common.{◌≡◌, drop}
use Rattle.wy_names_recursion.specs.TypeUses.{in_fields, seen_fields}
use Rattle.wy_names_recursion.proofs.types.+ty.Given as goal

abbrev pub invariant-in_fields-loop-field : goal.invariant-in_fields-loop-field
invariant-in_fields-loop-field l = in_fields l.scope l.from l.way (seen_fields (drop l.field-index l.fields)) l.edges ≡ in_fields l.scope l.from l.way (seen_fields l.fields) l.fn.edges
