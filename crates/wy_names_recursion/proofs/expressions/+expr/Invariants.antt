use Rattle.std.proofs.Common.{◌≡◌, drop}
use Rattle.wy_ast.specs.SurfaceSeen.{seen_exprs, seen_fields, seen_ranges}
use Rattle.wy_ast.specs.SurfaceTree.{exprs_of}
use Rattle.wy_names_recursion.specs.ExprUses.{in_exprs, in_values, in_ranges}
use Rattle.wy_names_recursion.proofs.expressions.+expr.Given as goal

-- what is left completes what is found
abbrev pub invariant-in_exprs-loop-expr : goal.invariant-in_exprs-loop-expr
invariant-in_exprs-loop-expr l = in_exprs l.scope l.from (exprs_of (seen_exprs (drop l.expr-index l.exprs))) l.edges ≡ in_exprs l.scope l.from (exprs_of (seen_exprs l.exprs)) l.fn.edges

abbrev pub invariant-in_values-loop-field : goal.invariant-in_values-loop-field
invariant-in_values-loop-field l = in_values l.scope l.from (seen_fields (drop l.field-index l.fields)) l.edges ≡ in_values l.scope l.from (seen_fields l.fields) l.fn.edges

abbrev pub invariant-in_ranges-loop-range : goal.invariant-in_ranges-loop-range
invariant-in_ranges-loop-range l = in_ranges l.scope l.from (seen_ranges (drop l.range-index l.ranges)) l.edges ≡ in_ranges l.scope l.from (seen_ranges l.ranges) l.fn.edges
