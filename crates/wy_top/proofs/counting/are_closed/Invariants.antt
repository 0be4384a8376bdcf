use Rattle.std.proofs.Common.{◌≡◌, drop, map}
use Rattle.wy_top.specs.Acceptance.{are_closed}
use Rattle.wy_batch.specs.Seen.{known}
use Rattle.wy_top.proofs.counting.are_closed.Given as goal

-- all are, if those that are left are
abbrev pub invariant-loop-verdict : goal.invariant-loop-verdict
invariant-loop-verdict l = are_closed (map known (drop l.verdict-index l.verdicts)) ≡ are_closed (map known l.verdicts)
