use Rattle.std.proofs.Common.{◌≡◌, Some, map}
use Rattle.wy_batch.proofs.ordering.unwrapped.Given as goal

-- the verdicts so far
abbrev pub invariant-loop-slot : goal.invariant-loop-slot
invariant-loop-slot l = record { value : map Some l.all.items ≡ l.yielded }
