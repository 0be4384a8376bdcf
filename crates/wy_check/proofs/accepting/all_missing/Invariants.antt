use Rattle.std.proofs.Common.{◌≡◌, length}
use Rattle.wy_check.specs.Within.{AllMissing}
use Rattle.wy_check.proofs.accepting.all_missing.Given as goal

abbrev pub invariant-loop : goal.invariant-loop
invariant-loop l = record {
  count : length l.verdicts.items ≡ l.counter;
  each : AllMissing l.verdicts.items;
}
