use Rattle.std.proofs.Common.{◌≡◌, drop}
use Rattle.wy_core.specs.CoreSeen.{seen_exprs, seen_fields}
use Rattle.wy_core.specs.CoreTree.{exprs_of}
use Rattle.wy_vc_tables.specs.Mentions.{with_exprs, with_fields}
use Rattle.wy_vc_tables.proofs.names.+expr_names.Given as goal

-- with the names of those left they are all
abbrev pub invariant-names_in_exprs-loop-expr : goal.invariant-names_in_exprs-loop-expr
invariant-names_in_exprs-loop-expr l = with_exprs l.names (exprs_of (seen_exprs (drop l.expr-index l.exprs))) ≡ with_exprs l.fn.names (exprs_of (seen_exprs l.exprs))

abbrev pub invariant-names_in_values-loop-field : goal.invariant-names_in_values-loop-field
invariant-names_in_values-loop-field l = with_fields l.names (seen_fields (drop l.field-index l.fields)) ≡ with_fields l.fn.names (seen_fields l.fields)
