use Rattle.std.proofs.Common.{◌≡◌, ◌++◌, drop}
use Rattle.wy_graph.specs.reach.Walks.{clauses_of}
use Rattle.wy_graph.proofs.reach.clauses.clauses_of.Given as goal

-- those made, and those of the names that are left
abbrev pub invariant-loop-number : goal.invariant-loop-number
invariant-loop-number l = l.made.items ++ clauses_of l.number (drop l.number l.entries) ≡ clauses_of 0 l.entries
