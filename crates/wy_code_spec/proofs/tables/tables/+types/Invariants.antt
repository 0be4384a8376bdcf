use Rattle.std.proofs.Common.{◌≡◌, drop, map}
use Rattle.wy_core.specs.CoreSeen.{seen_ty, field_tys_of}
use Rattle.wy_code_spec.specs.tables.Tables as spec
use Rattle.wy_code_spec.proofs.tables.tables.+types.Given as goal

abbrev pub invariant-field_tys_table-loop-field : goal.invariant-field_tys_table-loop-field
invariant-field_tys_table-loop-field l =
    spec.field_tys_table (field_tys_of (map (λ f. (f.0, seen_ty f.1)) (drop l.field-index l.fields))) l.table ≡ spec.field_tys_table (field_tys_of (map (λ f. (f.0, seen_ty f.1)) l.fields)) l.fn.table
