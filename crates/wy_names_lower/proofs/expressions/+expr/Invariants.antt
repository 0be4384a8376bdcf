use Rattle.std.proofs.Common.{◌≡◌, [], ◌++◌, drop, map}
use Rattle.wy_ast.specs.SurfaceSeen.{seen_exprs, seen_fields, seen_ranges}
use Rattle.wy_ast.specs.SurfaceTree.{exprs_of}
use Rattle.wy_core.specs.CoreSeen.{seen_expr}
use Rattle.wy_names_lower.specs.ExprsLowered.{in_exprs, in_args, in_fields, in_ranges}
use Rattle.wy_names_lower.specs.Uses.{seen_templates}
use Rattle.wy_names_lower.specs.SeenPairs.{seen_head, valued_pairs}
use Rattle.wy_names_lower.proofs.expressions.+expr.Given as goal

-- what is left completes what is made
abbrev pub invariant-in_exprs-loop-expr : goal.invariant-in_exprs-loop-expr
invariant-in_exprs-loop-expr l = record {
  scope : l.scope ≡ l.fn.scope;
  variables : (in_exprs (seen_templates l.templates) l.fn.scope l.variables (exprs_of (seen_exprs (drop l.expr-index l.exprs)))).0 ≡ (in_exprs (seen_templates l.templates) l.fn.scope l.fn.variables (exprs_of (seen_exprs l.exprs))).0;
  value : map seen_expr l.made ++ (in_exprs (seen_templates l.templates) l.fn.scope l.variables (exprs_of (seen_exprs (drop l.expr-index l.exprs)))).1 ≡ (in_exprs (seen_templates l.templates) l.fn.scope l.fn.variables (exprs_of (seen_exprs l.exprs))).1;
}

abbrev pub invariant-in_args-loop-i : goal.invariant-in_args-loop-i
invariant-in_args-loop-i l = record {
  scope : l.scope ≡ l.fn.scope;
  variables : (in_args (seen_templates l.templates) l.fn.scope l.variables l.callee l.i (exprs_of (seen_exprs (drop l.i l.args)))).0 ≡ (in_args (seen_templates l.templates) l.fn.scope l.fn.variables l.callee 0 (exprs_of (seen_exprs l.args))).0;
  value : map seen_expr l.made ++ (in_args (seen_templates l.templates) l.fn.scope l.variables l.callee l.i (exprs_of (seen_exprs (drop l.i l.args)))).1 ≡ (in_args (seen_templates l.templates) l.fn.scope l.fn.variables l.callee 0 (exprs_of (seen_exprs l.args))).1;
}

abbrev pub invariant-in_fields-loop-field : goal.invariant-in_fields-loop-field
invariant-in_fields-loop-field l = record {
  scope : l.scope ≡ l.fn.scope;
  variables : (in_fields (seen_templates l.templates) l.fn.scope l.variables (valued_pairs l.map.entries) (seen_fields (drop l.field-index l.fields))).0 ≡ (in_fields (seen_templates l.templates) l.fn.scope l.fn.variables [] (seen_fields l.fields)).0;
  value : (in_fields (seen_templates l.templates) l.fn.scope l.variables (valued_pairs l.map.entries) (seen_fields (drop l.field-index l.fields))).1 ≡ (in_fields (seen_templates l.templates) l.fn.scope l.fn.variables [] (seen_fields l.fields)).1;
}

abbrev pub invariant-in_ranges-loop-range : goal.invariant-in_ranges-loop-range
invariant-in_ranges-loop-range l = record {
  scope : (in_ranges (seen_templates l.templates) l.scope l.variables (seen_ranges (drop l.range-index l.ranges))).0 ≡ (in_ranges (seen_templates l.templates) l.fn.scope l.fn.variables (seen_ranges l.ranges)).0;
  variables : (in_ranges (seen_templates l.templates) l.scope l.variables (seen_ranges (drop l.range-index l.ranges))).1 ≡ (in_ranges (seen_templates l.templates) l.fn.scope l.fn.variables (seen_ranges l.ranges)).1;
  value : map seen_head l.heads ++ (in_ranges (seen_templates l.templates) l.scope l.variables (seen_ranges (drop l.range-index l.ranges))).2 ≡ (in_ranges (seen_templates l.templates) l.fn.scope l.fn.variables (seen_ranges l.ranges)).2;
}
