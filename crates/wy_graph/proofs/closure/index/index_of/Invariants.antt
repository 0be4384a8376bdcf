use Rattle.std.proofs.Common.{◌≡◌, drop, length}
use Rattle.wy_graph.specs.closure.Index as index
use Rattle.wy_graph.proofs.closure.index.index_of.Given as goal

abbrev pub invariant-loop-number : goal.invariant-loop-number
invariant-loop-number l = record { value : index.with_all l.asking.items (drop l.number l.clauses) l.number ≡ index.with_all l.initial.asking.items l.clauses 0; count : length l.initial.asking.items ≡ l.count }
