use Rattle.std.proofs.Common.{◌≡◌, ◌<◌, ℕ, length}
use Rattle.wy_graph.specs.reach.Reach.{is_written}
use Rattle.wy_graph.specs.reach.Walks.{Entries, AreSizes, MarkRecursive, mark_at}
use Rattle.wy_graph.proofs.reach.writing.marks_of.Given as goal

abbrev pub invariant-loop-number : goal.invariant-loop-number
invariant-loop-number l = record {
  count : length l.marks ≡ l.number;
  each : (entries : Entries) → MarkRecursive l.loops entries → AreSizes l.sizes entries → (n : ℕ) → n < l.number → mark_at l.marks n ≡ is_written entries n;
}
