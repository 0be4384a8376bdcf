use Rattle.std.proofs.Common.{◌≡◌, ℕ, length}
use Rattle.wy_graph.specs.reach.Walks.{size_at}
use Rattle.wy_graph.proofs.reach.sizes.single_nodes.Given as goal

abbrev pub invariant-loop-number : goal.invariant-loop-number
invariant-loop-number l = record { count : length l.sizes ≡ l.number; ones : (n : ℕ) → size_at l.sizes n ≡ 1 }
