use Rattle.std.proofs.Common.{◌≡◌, [], drop}
use Rattle.wy_names_recursion.specs.TypeNames.{in_fields}
use Rattle.wy_names_recursion.proofs.bind_types.+ty.Given as goal
use Rattle.wy_names_recursion.specs.TypeUses.{seen_fields}

abbrev pub invariant-in_fields-loop-field : goal.invariant-in_fields-loop-field
invariant-in_fields-loop-field l = in_fields l.scope l.seen (seen_fields (drop l.field-index l.fields)) l.found ≡ in_fields l.scope [] (seen_fields l.fields) l.fn.found
