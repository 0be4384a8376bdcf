use Rattle.std.proofs.Common.{◌≡◌, ◌++◌, drop}
use Rattle.wy_graph.specs.reach.Walks.{loops_by}
use Rattle.wy_graph.proofs.reach.loops.loops_by.Given as goal

-- the marks so far, and those of the names that are left
abbrev pub invariant-loop-number : goal.invariant-loop-number
invariant-loop-number l = l.marks ++ loops_by l.labels l.number (drop l.number l.entries) ≡ loops_by l.labels 0 l.entries
