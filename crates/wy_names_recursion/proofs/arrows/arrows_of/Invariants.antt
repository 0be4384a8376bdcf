use Rattle.std.proofs.Common.{◌≡◌, ◌++◌, drop}
use Rattle.wy_names_recursion.specs.Arrows.{arrows_of}
use Rattle.wy_names_recursion.proofs.arrows.arrows_of.Given as goal

abbrev pub invariant-loop-edge : goal.invariant-loop-edge
invariant-loop-edge l = l.arrows ++ arrows_of l.all (drop l.edge-index l.edges) ≡ arrows_of l.all l.edges
