use Rattle.std.proofs.Common.{◌≡◌, ◌+◌, drop}
use Rattle.wy_core.specs.CoreSeen.{seen_exprs, seen_fields}
use Rattle.wy_core.specs.CoreTree.{exprs_of}
use Rattle.wy_vc_spec.specs.Sizes.{exprs_in_all, exprs_in_fields}
use Rattle.wy_vc_tables.proofs.sizes.counts.+sizes.Given as goal

-- those passed and those left are all
abbrev pub invariant-exprs_in_all-loop-expr : goal.invariant-exprs_in_all-loop-expr
invariant-exprs_in_all-loop-expr l = l.count + exprs_in_all (exprs_of (seen_exprs (drop l.expr-index l.exprs))) ≡ exprs_in_all (exprs_of (seen_exprs l.exprs))

abbrev pub invariant-exprs_in_fields-loop-field : goal.invariant-exprs_in_fields-loop-field
invariant-exprs_in_fields-loop-field l = l.count + exprs_in_fields (seen_fields (drop l.field-index l.fields)) ≡ exprs_in_fields (seen_fields l.fields)
