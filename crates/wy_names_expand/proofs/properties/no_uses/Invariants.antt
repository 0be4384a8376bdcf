use Rattle.std.proofs.Common.{◌≡◌, ◌++◌, drop, map}
use Rattle.wy_ast.specs.SurfaceSeen.{seen_param}
use Rattle.wy_names_expand.specs.Summaries.{no_uses}
use Rattle.wy_names_expand.proofs.properties.no_uses.Given as goal

abbrev pub invariant-loop-param : goal.invariant-loop-param
invariant-loop-param l = l.uses ++ no_uses (map seen_param (drop l._param-index l.params)) ≡ no_uses (map seen_param l.params)
