use Rattle.std.proofs.Common.{◌≡◌, drop, map}
use Rattle.wy_ast.specs.SurfaceSeen.{seen_step}
use Rattle.wy_names_expand.specs.Sizes.{known}
use Rattle.wy_names_expand.specs.Wholes.{in_path}
use Rattle.wy_names_expand.proofs.statements.in_path.Given as goal

abbrev pub invariant-loop-step : goal.invariant-loop-step
invariant-loop-step l = in_path (known l.scope l.params l.expansions) (map seen_step (drop l.step-index l.path)) l.found ≡ in_path (known l.scope l.params l.expansions) (map seen_step l.path) l.fn.found
