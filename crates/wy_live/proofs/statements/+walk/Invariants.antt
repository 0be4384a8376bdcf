use Rattle.std.proofs.Common.{◌≡◌, ◌≤◌, length, drop}
use Rattle.wy_core.specs.CoreSeen.{seen_block}
use Rattle.wy_live.specs.Walks as spec
use Rattle.wy_live.proofs.statements.+walk.Given as goal

-- what is behind has been gone through
abbrev pub invariant-walk_block-loop-left : goal.invariant-walk_block-loop-left
invariant-walk_block-loop-left l = record {
  within : l.left ≤ length l.block;
  value : l.walk ≡ spec.walked_all (seen_block (drop l.left l.block)) l.ends l.fn.walk;
}

abbrev pub decreases-walk_block-loop-left : goal.decreases-walk_block-loop-left
decreases-walk_block-loop-left l = l.left
