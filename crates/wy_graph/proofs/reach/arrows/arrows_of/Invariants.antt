use Rattle.std.proofs.Common.{◌≡◌, ◌++◌, drop}
use Rattle.wy_graph.specs.reach.Walks.{arrows_of}
use Rattle.wy_graph.proofs.reach.arrows.arrows_of.Given as goal

-- those made, and those of the names that are left
abbrev pub invariant-loop-number : goal.invariant-loop-number
invariant-loop-number l = l.arrows.items ++ arrows_of l.number (drop l.number l.entries) ≡ arrows_of 0 l.entries
