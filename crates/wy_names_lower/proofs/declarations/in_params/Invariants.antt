use Rattle.std.proofs.Common.{◌≡◌, ◌++◌, drop, map}
use Rattle.wy_ast.specs.SurfaceSeen as surface
use Rattle.wy_core.specs.CoreSeen.{seen_param}
use Rattle.wy_names_lower.specs.Templates.{params_scope, params_named}
use Rattle.wy_names_lower.specs.DeclsLowered.{in_params}
use Rattle.wy_names_lower.proofs.declarations.in_params.Given as goal

abbrev pub invariant-loop-param : goal.invariant-loop-param
invariant-loop-param l = record {
  scope : params_scope l.scope l.variables (map surface.seen_param (drop l.param-index l.params)) ≡ params_scope l.fn.scope l.fn.variables (map surface.seen_param l.params);
  variables : params_named l.variables (map surface.seen_param (drop l.param-index l.params)) ≡ params_named l.fn.variables (map surface.seen_param l.params);
  value : map seen_param l.made ++ in_params l.scope l.variables (map surface.seen_param (drop l.param-index l.params)) ≡ in_params l.fn.scope l.fn.variables (map surface.seen_param l.params);
}
