use Rattle.std.proofs.Common.{◌≡◌, drop}
use Rattle.wy_graph.specs.closure.Index as index
use Rattle.wy_graph.proofs.closure.index.note_numbers.Given as goal

abbrev pub invariant-loop-number : goal.invariant-loop-number
invariant-loop-number l = index.with_numbers l.asking.items (drop l.number-index l.numbers) l.clause ≡ index.with_numbers l.initial.asking.items l.numbers l.clause
