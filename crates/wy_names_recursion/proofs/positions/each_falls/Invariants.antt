use Rattle.std.proofs.Common.{◌≡◌, drop, map}
use Rattle.wy_ast.specs.SurfaceSeen.{seen_decl}
use Rattle.wy_names_recursion.specs.Endings.{each_falls}
use Rattle.wy_names_recursion.proofs.positions.each_falls.Given as goal

abbrev pub invariant-loop-edge : goal.invariant-loop-edge
invariant-loop-edge l = each_falls (map seen_decl l.decls) l.order l.positions (drop l.edge-index l.edges) ≡ each_falls (map seen_decl l.decls) l.order l.positions l.edges
