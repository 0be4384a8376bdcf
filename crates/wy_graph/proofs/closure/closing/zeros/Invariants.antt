use Rattle.std.proofs.Common.{◌≡◌, ℕ, length}
use Rattle.wy_graph.specs.closure.Closure.{number_at}
use Rattle.wy_graph.proofs.closure.closing.zeros.Given as goal

abbrev pub invariant-loop-number : goal.invariant-loop-number
invariant-loop-number l = record { value : (n : ℕ) → number_at l.made n ≡ 0; count : length l.made ≡ l.number }
