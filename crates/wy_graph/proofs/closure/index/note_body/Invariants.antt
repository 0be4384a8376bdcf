use Rattle.std.proofs.Common.{◌≡◌, drop}
use Rattle.wy_graph.specs.closure.Index as index
use Rattle.wy_graph.proofs.closure.index.note_body.Given as goal

abbrev pub invariant-loop-numbers : goal.invariant-loop-numbers
invariant-loop-numbers l = index.with_body l.asking.items (drop l.numbers-index l.body) l.clause ≡ index.with_body l.initial.asking.items l.body l.clause
