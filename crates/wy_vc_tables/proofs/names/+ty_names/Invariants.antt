use Rattle.std.proofs.Common.{◌≡◌, drop, map}
use Rattle.wy_core.specs.CoreSeen.{field_tys_of, seen_ty}
use Rattle.wy_vc_tables.specs.Mentions.{with_field_tys}
use Rattle.wy_vc_tables.proofs.names.+ty_names.Given as goal

-- with the names of those left they are all
abbrev pub invariant-names_in_field_tys-loop-field : goal.invariant-names_in_field_tys-loop-field
invariant-names_in_field_tys-loop-field l =
    with_field_tys l.names (field_tys_of (map (λ f. (f.0, seen_ty f.1)) (drop l.field-index l.fields))) ≡ with_field_tys l.fn.names (field_tys_of (map (λ f. (f.0, seen_ty f.1)) l.fields))
