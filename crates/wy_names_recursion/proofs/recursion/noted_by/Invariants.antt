use Rattle.std.proofs.Common.{◌≡◌, drop, map}
use Rattle.wy_ast.specs.SurfaceSeen.{seen_decl}
use Rattle.wy_names_recursion.specs.Recursion.{noted_by}
use Rattle.wy_names_recursion.proofs.recursion.noted_by.Given as goal

abbrev pub invariant-loop-edge : goal.invariant-loop-edge
invariant-loop-edge l = noted_by l.bare l.all (map seen_decl l.decls) (drop l.edge-index l.edges) l.found ≡ noted_by l.bare l.all (map seen_decl l.decls) l.edges l.fn.found
