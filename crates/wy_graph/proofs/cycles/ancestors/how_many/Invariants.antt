use Rattle.std.proofs.Common.{◌≡◌, ◌+◌, ◌≤◌, drop}
use Rattle.wy_graph.specs.cycles.Ancestors.{how_many}
use Rattle.wy_graph.proofs.cycles.ancestors.how_many.Given as goal

abbrev pub invariant-loop-mark : goal.invariant-loop-mark
invariant-loop-mark l = record { value : l.count + how_many (drop l.mark-index l.marks) ≡ how_many l.marks; less : l.count ≤ l.mark-index }
