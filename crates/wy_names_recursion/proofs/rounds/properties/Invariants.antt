use Rattle.std.proofs.Common.{◌≡◌, ◌++◌, drop, map}
use Rattle.wy_ast.specs.SurfaceSeen.{seen_decl}
use Rattle.wy_names_recursion.specs.Rounds.{properties}
use Rattle.wy_names_recursion.proofs.rounds.properties.Given as goal

abbrev pub invariant-loop-index : goal.invariant-loop-index
invariant-loop-index l = l.all ++ properties l.index (map seen_decl (drop l.index l.decls)) ≡ properties 0 (map seen_decl l.decls)
