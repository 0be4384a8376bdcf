use Rattle.std.proofs.Common.{◌≡◌, ◌≤◌, length, drop}
use Rattle.wy_core.specs.CoreSeen.{seen_exprs}
use Rattle.wy_live.specs.LastUses as definition
use Rattle.wy_live.proofs.uses.skip_clauses.Given as goal

-- what is behind has been gone through
abbrev pub invariant-loop-left : goal.invariant-loop-left
invariant-loop-left l = record {
  within : l.left ≤ length l.clauses;
  value : l.marks ≡ definition.clauses_unused (seen_exprs (drop l.left l.clauses)) l.fn.marks;
}

abbrev pub decreases-loop-left : goal.decreases-loop-left
decreases-loop-left l = l.left
