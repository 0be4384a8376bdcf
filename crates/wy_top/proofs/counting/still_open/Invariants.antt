use Rattle.std.proofs.Common.{◌≡◌, ◌+◌, ◌≤◌, drop, map}
use Rattle.wy_batch.specs.Known.{count, is_open}
use Rattle.wy_batch.specs.Seen.{known}
use Rattle.wy_top.proofs.counting.still_open.Given as goal

-- those so far, and those among what is left
abbrev pub invariant-loop-i : goal.invariant-loop-i
invariant-loop-i l = record {
  bound : l.count ≤ l.i;
  so_far : l.count + count is_open (map known (drop l.i l.verdicts)) ≡ count is_open (map known l.verdicts);
}
