use Rattle.std.proofs.Common.{◌≡◌, ◌++◌, drop, map}
use Rattle.wy_ast.specs.SurfaceSeen.{seen_decl}
use Rattle.wy_names_recursion.specs.Rounds.{order_behind, rest_behind}
use Rattle.wy_names_recursion.proofs.rounds.taken.Given as goal

abbrev pub invariant-loop-index : goal.invariant-loop-index
invariant-loop-index l = record {
  order : order_behind (map seen_decl l.decls) l.edges l.order (drop l.index-index l.rest) ≡ order_behind (map seen_decl l.decls) l.edges l.fn.order l.rest;
  left : l.left ++ rest_behind (map seen_decl l.decls) l.edges l.order (drop l.index-index l.rest) ≡ rest_behind (map seen_decl l.decls) l.edges l.fn.order l.rest;
}
