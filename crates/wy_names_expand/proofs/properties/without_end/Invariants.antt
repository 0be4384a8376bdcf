use Rattle.std.proofs.Common.{◌≡◌, ◌++◌, drop, map}
use Rattle.wy_ast.specs.SurfaceSeen.{seen_decl}
use Rattle.wy_names_expand.specs.Summaries.{without_end}
use Rattle.wy_names_expand.proofs.properties.without_end.Given as goal

abbrev pub invariant-loop-decl : goal.invariant-loop-decl
invariant-loop-decl l = l.expansions ++ without_end (map seen_decl (drop l._decl-index l.decls)) ≡ without_end (map seen_decl l.decls)
