use Rattle.std.proofs.Common.{◌≡◌, drop}
use Rattle.wy_data.specs.scan.Words.{rises}
use Rattle.wy_data.proofs.scan.names.rise.Given as goal

abbrev pub invariant-loop-k : goal.invariant-loop-k
invariant-loop-k l = rises (drop l.k l.names) ≡ rises l.names
