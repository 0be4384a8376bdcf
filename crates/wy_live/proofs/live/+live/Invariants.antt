use Rattle.std.proofs.Common.{◌≡◌, ◌≤◌, length, drop}
use Rattle.wy_core.specs.CoreSeen.{seen_block}
use Rattle.wy_live.specs.Walks as spec
use Rattle.wy_live.proofs.live.+live.Given as goal

-- what is behind has been gone through
abbrev pub invariant-live_block-loop-left : goal.invariant-live_block-loop-left
invariant-live_block-loop-left l = record {
  within : l.left ≤ length l.block;
  value : l.live ≡ spec.live_all (seen_block (drop l.left l.block)) l.fn.behind l.ends;
}

abbrev pub decreases-live_block-loop-left : goal.decreases-live_block-loop-left
decreases-live_block-loop-left l = l.left
