use Rattle.std.proofs.Common.{◌≡◌, ◌≤◌, ◌++◌, length, drop}
use Rattle.wy_check_nodes.specs.Tasks.{tasks_of}
use Rattle.wy_check_nodes.proofs.adding.with_members.Given as goal

-- the members behind have been put first
abbrev pub invariant-loop-left : goal.invariant-loop-left
invariant-loop-left l = record {
  within : l.left ≤ length l.members;
  tasks : l.tasks.items ≡ tasks_of l.holds (drop l.left l.members) ++ l.fn.tasks.items;
}

abbrev pub decreases-loop-left : goal.decreases-loop-left
decreases-loop-left l = l.left
