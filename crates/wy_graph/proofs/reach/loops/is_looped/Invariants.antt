use Rattle.std.proofs.Common.{◌≡◌, drop}
use Rattle.wy_graph.specs.reach.Walks.{is_looped}
use Rattle.wy_graph.proofs.reach.loops.is_looped.Given as goal

-- those passed have another label
abbrev pub invariant-loop-name : goal.invariant-loop-name
invariant-loop-name l = is_looped l.labels l.number (drop l.name-index l.names) ≡ is_looped l.labels l.number l.names
