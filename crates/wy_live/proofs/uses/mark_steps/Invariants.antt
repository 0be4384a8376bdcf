use Rattle.std.proofs.Common.{◌≡◌, ◌≤◌, length, drop, map}
use Rattle.wy_core.specs.CoreSeen.{seen_step}
use Rattle.wy_live.specs.Walks as spec
use Rattle.wy_live.proofs.uses.mark_steps.Given as goal

-- what is behind has been gone through
abbrev pub invariant-loop-left : goal.invariant-loop-left
invariant-loop-left l = record {
  within : l.left ≤ length l.path;
  value : l.walk ≡ spec.marked_steps (map seen_step (drop l.left l.path)) l.fn.walk;
}

abbrev pub decreases-loop-left : goal.decreases-loop-left
decreases-loop-left l = l.left
