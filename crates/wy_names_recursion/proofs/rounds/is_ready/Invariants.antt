use Rattle.std.proofs.Common.{◌≡◌, drop, map}
use Rattle.wy_ast.specs.SurfaceSeen.{seen_decl}
use Rattle.wy_names_recursion.specs.Rounds.{is_ready}
use Rattle.wy_names_recursion.proofs.rounds.is_ready.Given as goal

abbrev pub invariant-loop-edge : goal.invariant-loop-edge
invariant-loop-edge l = is_ready (map seen_decl l.decls) l.order l.index (drop l.edge-index l.edges) ≡ is_ready (map seen_decl l.decls) l.order l.index l.edges
