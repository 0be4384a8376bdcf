use Rattle.std.proofs.Common.{◌≡◌, ◌+◌, ◌≤◌, drop, map}
use Rattle.wy_batch.specs.Known.{count, is_spent}
use Rattle.wy_batch.specs.Seen.{known}
use Rattle.wy_top.proofs.counting.spent.Given as goal

-- those so far, and those among what is left
abbrev pub invariant-loop-i : goal.invariant-loop-i
invariant-loop-i l = record {
  bound : l.count ≤ l.i;
  so_far : l.count + count is_spent (map known (drop l.i l.verdicts)) ≡ count is_spent (map known l.verdicts);
}
