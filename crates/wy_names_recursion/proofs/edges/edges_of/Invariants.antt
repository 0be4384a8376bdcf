use Rattle.std.proofs.Common.{◌≡◌, drop, map}
use Rattle.wy_ast.specs.SurfaceSeen.{seen_decl}
use Rattle.wy_names_recursion.specs.DeclUses.{in_decls, edges_of}
use Rattle.wy_names_recursion.proofs.edges.edges_of.Given as goal

abbrev pub invariant-loop-decl : goal.invariant-loop-decl
invariant-loop-decl l = in_decls l.scope l.from (map seen_decl (drop l.decl-index l.decls)) l.edges ≡ edges_of l.scope (map seen_decl l.decls)
