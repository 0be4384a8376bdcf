use Rattle.std.proofs.Common.{◌≡◌, ◌++◌, drop, map}
use Rattle.wy_ast.specs.SurfaceSeen.{seen_exprs}
use Rattle.wy_core.specs.CoreSeen.{seen_expr}
use Rattle.wy_names_lower.specs.StmtsLowered.{in_clauses, each_behind_first}
use Rattle.wy_names_lower.specs.Uses.{seen_templates}
use Rattle.wy_names_lower.proofs.repeats.each_behind_first.Given as goal

abbrev pub invariant-loop-expr : goal.invariant-loop-expr
invariant-loop-expr l = record {
  scope : l.scope ≡ l.fn.scope;
  variables : (in_clauses (seen_templates l.templates) l.fn.scope l.variables (seen_exprs (drop l.expr-index l.exprs))).0 ≡ (in_clauses (seen_templates l.templates) l.fn.scope l.fn.variables (seen_exprs l.exprs)).0;
  value : map seen_expr l.made ++ each_behind_first l.at l.first (in_clauses (seen_templates l.templates) l.fn.scope l.variables (seen_exprs (drop l.expr-index l.exprs))).1 ≡ each_behind_first l.at l.first (in_clauses (seen_templates l.templates) l.fn.scope l.fn.variables (seen_exprs l.exprs)).1;
}
