use Rattle.std.proofs.Common.{◌≡◌, drop}
use Rattle.wy_ast.specs.SurfaceSeen.{seen_exprs}
use Rattle.wy_names_expand.specs.Sizes.{known}
use Rattle.wy_names_expand.specs.Wholes.{each_behind_first}
use Rattle.wy_names_expand.proofs.statements.each_behind_first.Given as goal

abbrev pub invariant-loop-expr : goal.invariant-loop-expr
invariant-loop-expr l = each_behind_first (known l.scope l.params l.expansions) l.at (seen_exprs (drop l.expr-index l.exprs)) l.found ≡ each_behind_first (known l.scope l.params l.expansions) l.at (seen_exprs l.exprs) l.fn.found
