use Rattle.std.proofs.Common.{◌≡◌, drop}
use Rattle.wy_core.specs.CoreSeen.{seen_exprs, seen_fields}
use Rattle.wy_core.specs.CoreTree.{exprs_of}
use Rattle.wy_code_spec.specs.tables.Tables as spec
use Rattle.wy_code_spec.proofs.tables.tables.+exprs.Given as goal

abbrev pub invariant-exprs_table-loop-expr : goal.invariant-exprs_table-loop-expr
invariant-exprs_table-loop-expr l = spec.exprs_table (exprs_of (seen_exprs (drop l.expr-index l.exprs))) l.table ≡ spec.exprs_table (exprs_of (seen_exprs l.exprs)) l.fn.table

abbrev pub invariant-fields_table-loop-field : goal.invariant-fields_table-loop-field
invariant-fields_table-loop-field l = spec.fields_table (seen_fields (drop l.field-index l.fields)) l.table ≡ spec.fields_table (seen_fields l.fields) l.fn.table
