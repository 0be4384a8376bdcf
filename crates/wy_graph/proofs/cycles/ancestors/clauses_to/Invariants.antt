use Rattle.std.proofs.Common.{◌≡◌, ◌++◌, drop, map}
use Rattle.wy_graph.specs.cycles.Ancestors.{clause_of, clauses_to}
use Rattle.wy_graph.proofs.cycles.ancestors.clauses_to.Given as goal

abbrev pub invariant-loop-arrow : goal.invariant-loop-arrow
invariant-loop-arrow l = l.clauses.items ++ map clause_of (drop l.arrow-index l.arrows) ≡ clauses_to l.arrows l.node
