use Rattle.std.proofs.Common.{◌≡◌, drop, map}
use Rattle.wy_ast.specs.SurfaceSeen.{seen_step}
use Rattle.wy_names_recursion.specs.StmtNames.{in_path}
use Rattle.wy_names_recursion.proofs.statements.in_path.Given as goal

abbrev pub invariant-loop-step : goal.invariant-loop-step
invariant-loop-step l = record {
  scope : l.scope ≡ l.fn.scope;
  value : in_path l.context l.fn.scope (map seen_step (drop l.step-index l.path)) l.found ≡ in_path l.context l.fn.scope (map seen_step l.path) l.fn.found;
}
