use Rattle.std.proofs.Common.{◌≡◌, ◌+◌, drop, map}
use Rattle.wy_core.specs.CoreSeen.{field_tys_of, seen_ty}
use Rattle.wy_vc_spec.specs.Named.{nodes_of_fields}
use Rattle.wy_vc_tables.specs.Mentions.{no_nodes}
use Rattle.wy_vc_tables.proofs.nodes.+ty_nodes.Given as goal

-- those passed and those left are all
abbrev pub invariant-nodes_in_field_tys-loop-field : goal.invariant-nodes_in_field_tys-loop-field
invariant-nodes_in_field_tys-loop-field l =
    l.count + nodes_of_fields no_nodes (field_tys_of (map (λ f. (f.0, seen_ty f.1)) (drop l.field-index l.fields))) ≡ nodes_of_fields no_nodes (field_tys_of (map (λ f. (f.0, seen_ty f.1)) l.fields))
