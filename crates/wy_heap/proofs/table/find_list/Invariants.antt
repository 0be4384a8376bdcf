use Rattle.std.proofs.Common.{◌≡◌, ◌<◌, ℕ, [], get_or}
use Rattle.wy_heap.proofs.table.find_list.Given as goal

abbrev pub invariant-loop-i : goal.invariant-loop-i
invariant-loop-i l = (k : ℕ) → k < l.i → get_or l.lists k [] ≡ l.list → ⊥
