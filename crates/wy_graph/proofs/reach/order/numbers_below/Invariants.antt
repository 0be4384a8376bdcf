use Rattle.std.proofs.Common.{◌≡◌, ◌<◌, ℕ, length, get_or}
use Rattle.wy_graph.proofs.reach.order.numbers_below.Given as goal

abbrev pub invariant-loop-number : goal.invariant-loop-number
invariant-loop-number l = record { count : length l.made.items ≡ l.number; each : (n : ℕ) → n < l.number → get_or l.made.items n 0 ≡ n }
