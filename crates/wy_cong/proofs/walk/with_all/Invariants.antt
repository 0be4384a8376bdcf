use Rattle.std.proofs.Common.{◌≡◌, ◌≤◌, ◌++◌, drop, length}
use Rattle.wy_cong.proofs.walk.with_all.Given as goal
use Rattle.wy_cong.specs.Walk.{visits}

-- the parts behind have been put first
abbrev pub invariant-loop-left : goal.invariant-loop-left
invariant-loop-left l = record {
  within : l.left ≤ length l.parts;
  tasks : l.tasks.items ≡ visits (drop l.left l.parts) ++ l.fn.tasks.items;
}

abbrev pub decreases-loop-left : goal.decreases-loop-left
decreases-loop-left l = l.left
