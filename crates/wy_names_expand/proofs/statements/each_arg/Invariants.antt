use Rattle.std.proofs.Common.{◌≡◌, drop}
use Rattle.wy_ast.specs.SurfaceSeen.{seen_exprs}
use Rattle.wy_ast.specs.SurfaceTree.{exprs_of}
use Rattle.wy_names_expand.specs.Sizes.{known}
use Rattle.wy_names_expand.specs.Wholes.{each_arg}
use Rattle.wy_names_expand.proofs.statements.each_arg.Given as goal

abbrev pub invariant-loop-arg : goal.invariant-loop-arg
invariant-loop-arg l = each_arg (known l.scope l.params l.expansions) (exprs_of (seen_exprs (drop l.arg-index l.args))) l.found ≡ each_arg (known l.scope l.params l.expansions) (exprs_of (seen_exprs l.args)) l.fn.found
