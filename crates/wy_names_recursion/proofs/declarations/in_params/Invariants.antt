use Rattle.std.proofs.Common.{◌≡◌, drop, map}
use Rattle.wy_ast.specs.SurfaceSeen.{seen_param}
use Rattle.wy_names_recursion.specs.DeclNames.{in_params, with_params}
use Rattle.wy_names_recursion.proofs.declarations.in_params.Given as goal

abbrev pub invariant-loop-param : goal.invariant-loop-param
invariant-loop-param l = record {
  scope : with_params l.scope (map seen_param (drop l.param-index l.params)) ≡ with_params l.fn.scope (map seen_param l.params);
  value : in_params l.scope (map seen_param (drop l.param-index l.params)) l.found ≡ in_params l.fn.scope (map seen_param l.params) l.fn.found;
}
