use Rattle.std.proofs.Common.{◌≡◌, drop}
use Rattle.wy_ast.specs.SurfaceSeen.{seen_exprs, seen_fields, seen_ranges}
use Rattle.wy_ast.specs.SurfaceTree.{exprs_of}
use Rattle.wy_names_expand.specs.Sizes.{known, in_exprs, in_args, in_fields, in_ranges}
use Rattle.wy_names_expand.proofs.expressions.+expr.Given as goal

-- what is left completes what is counted
abbrev pub invariant-in_exprs-loop-expr : goal.invariant-in_exprs-loop-expr
invariant-in_exprs-loop-expr l = in_exprs (known l.scope l.params l.expansions) l.spot (exprs_of (seen_exprs (drop l.expr-index l.exprs))) l.measure ≡ in_exprs (known l.scope l.params l.expansions) l.spot (exprs_of (seen_exprs l.exprs)) l.fn.measure

abbrev pub invariant-in_args-loop-i : goal.invariant-in_args-loop-i
invariant-in_args-loop-i l = in_args (known l.scope l.params l.expansions) l.spot l.at l.callee l.i (exprs_of (seen_exprs (drop l.i l.args))) l.measure ≡ in_args (known l.scope l.params l.expansions) l.spot l.at l.callee 0 (exprs_of (seen_exprs l.args)) l.fn.measure

abbrev pub invariant-in_fields-loop-field : goal.invariant-in_fields-loop-field
invariant-in_fields-loop-field l = in_fields (known l.scope l.params l.expansions) l.spot (seen_fields (drop l.field-index l.fields)) l.measure ≡ in_fields (known l.scope l.params l.expansions) l.spot (seen_fields l.fields) l.fn.measure

abbrev pub invariant-in_ranges-loop-range : goal.invariant-in_ranges-loop-range
invariant-in_ranges-loop-range l = in_ranges (known l.scope l.params l.expansions) l.spot (seen_ranges (drop l.range-index l.ranges)) l.measure ≡ in_ranges (known l.scope l.params l.expansions) l.fn.spot (seen_ranges l.ranges) l.fn.measure
