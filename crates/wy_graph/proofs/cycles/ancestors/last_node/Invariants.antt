use Rattle.std.proofs.Common.{◌≡◌, drop}
use Rattle.wy_graph.specs.cycles.Ancestors.{last_node}
use Rattle.wy_graph.proofs.cycles.ancestors.last_node.Given as goal

abbrev pub invariant-loop-arrow : goal.invariant-loop-arrow
invariant-loop-arrow l = last_node (drop l.arrow-index l.arrows) l.last ≡ last_node l.arrows 0
