use Rattle.std.proofs.Common.{◌≡◌, ◌++◌, drop, map}
use Rattle.wy_ast.specs.SurfaceSeen as surface
use Rattle.wy_core.specs.CoreSeen.{seen_step}
use Rattle.wy_names_lower.specs.StmtsLowered.{in_path}
use Rattle.wy_names_lower.specs.Uses.{seen_templates}
use Rattle.wy_names_lower.proofs.plain.in_path.Given as goal

abbrev pub invariant-loop-step : goal.invariant-loop-step
invariant-loop-step l = record {
  scope : l.scope ≡ l.fn.scope;
  variables : (in_path (seen_templates l.templates) l.fn.scope l.variables (map surface.seen_step (drop l.step-index l.path))).0 ≡ (in_path (seen_templates l.templates) l.fn.scope l.fn.variables (map surface.seen_step l.path)).0;
  value : map seen_step l.made ++ (in_path (seen_templates l.templates) l.fn.scope l.variables (map surface.seen_step (drop l.step-index l.path))).1 ≡ (in_path (seen_templates l.templates) l.fn.scope l.fn.variables (map surface.seen_step l.path)).1;
}
