use Rattle.std.proofs.Common.{◌≡◌, ◌≤◌, ◌++◌, length, drop}
use Rattle.wy_cong.proofs.atoms.with_members.Given as goal

-- the members behind have been put first
abbrev pub invariant-loop-left : goal.invariant-loop-left
invariant-loop-left l = record {
  within : l.left ≤ length l.members;
  tasks : l.tasks.items ≡ drop l.left l.members ++ l.fn.tasks.items;
}

abbrev pub decreases-loop-left : goal.decreases-loop-left
decreases-loop-left l = l.left
