use Rattle.std.proofs.Common.{◌≡◌, drop, map}
use Rattle.wy_ast.specs.SurfaceSeen.{seen_decl}
use Rattle.wy_names_recursion.specs.Endings.{each_placed}
use Rattle.wy_names_recursion.proofs.positions.each_placed.Given as goal

abbrev pub invariant-loop-place : goal.invariant-loop-place
invariant-loop-place l = each_placed (map seen_decl l.decls) l.positions l.place (drop l.place l.order) ≡ each_placed (map seen_decl l.decls) l.positions 0 l.order
