use Rattle.std.proofs.Common.{◌≡◌, [], drop}
use Rattle.wy_ast.specs.SurfaceSeen.{seen_exprs, seen_fields, seen_ranges}
use Rattle.wy_ast.specs.SurfaceTree.{exprs_of}
use Rattle.wy_names_recursion.specs.ExprNames.{in_exprs, in_fields, in_ranges, with_ranges}
use Rattle.wy_names_recursion.proofs.bind_expressions.+expr.Given as goal

-- what is left completes what is found
abbrev pub invariant-in_exprs-loop-expr : goal.invariant-in_exprs-loop-expr
invariant-in_exprs-loop-expr l = record {
  scope : l.scope ≡ l.fn.scope;
  value : in_exprs l.context l.fn.scope (exprs_of (seen_exprs (drop l.expr-index l.exprs))) l.found ≡ in_exprs l.context l.fn.scope (exprs_of (seen_exprs l.exprs)) l.fn.found;
}

abbrev pub invariant-in_fields-loop-field : goal.invariant-in_fields-loop-field
invariant-in_fields-loop-field l = record {
  scope : l.scope ≡ l.fn.scope;
  value : in_fields l.context l.fn.scope l.seen (seen_fields (drop l.field-index l.fields)) l.found ≡ in_fields l.context l.fn.scope [] (seen_fields l.fields) l.fn.found;
}

abbrev pub invariant-in_ranges-loop-range : goal.invariant-in_ranges-loop-range
invariant-in_ranges-loop-range l = record {
  scope : with_ranges l.scope (seen_ranges (drop l.range-index l.ranges)) ≡ with_ranges l.fn.scope (seen_ranges l.ranges);
  value : in_ranges l.context l.scope l.at (seen_ranges (drop l.range-index l.ranges)) l.found ≡ in_ranges l.context l.fn.scope l.at (seen_ranges l.ranges) l.fn.found;
}
