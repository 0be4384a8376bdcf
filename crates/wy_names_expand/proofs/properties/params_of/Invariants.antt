use Rattle.std.proofs.Common.{◌≡◌, drop, map}
use Rattle.wy_ast.specs.SurfaceSeen.{seen_param}
use Rattle.wy_names_expand.specs.Summaries.{params_of, params_from}
use Rattle.wy_names_expand.proofs.properties.params_of.Given as goal

abbrev pub invariant-loop-param : goal.invariant-loop-param
invariant-loop-param l = params_from l.table l.number (map seen_param (drop l.param-index l.params)) ≡ params_of (map seen_param l.params)
