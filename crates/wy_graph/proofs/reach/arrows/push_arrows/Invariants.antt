use Rattle.std.proofs.Common.{◌≡◌, ◌++◌, drop}
use Rattle.wy_graph.specs.reach.Walks.{arrows_from}
use Rattle.wy_graph.proofs.reach.arrows.push_arrows.Given as goal

-- those made, and those to the names that are left
abbrev pub invariant-loop-to : goal.invariant-loop-to
invariant-loop-to l = l.arrows.items ++ arrows_from l.from (drop l.to-index l.names) ≡ l.fn.arrows.items ++ arrows_from l.from l.names
