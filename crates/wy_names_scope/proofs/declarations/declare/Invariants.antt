use Rattle.std.proofs.Common.{◌≡◌, drop, map}
use Rattle.wy_ast.specs.SurfaceSeen.{seen_decl}
use Rattle.wy_names_scope.specs.Declarations.{declared, declared_behind}
use Rattle.wy_names_scope.proofs.declarations.declare.Given as goal

-- what is left completes what is declared
abbrev pub invariant-loop-decl : goal.invariant-loop-decl
invariant-loop-decl l = declared_behind l.table l.found l.counts (map seen_decl (drop l.decl-index l.decls)) ≡ declared (map seen_decl l.decls)
