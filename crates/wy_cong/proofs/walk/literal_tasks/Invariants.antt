use Rattle.std.proofs.Common.{◌≡◌, ◌++◌, drop}
use Rattle.wy_cong.proofs.walk.literal_tasks.Given as goal
use Rattle.wy_cong.specs.Walk.{of_literals}

-- what is put and what is left come to all
abbrev pub invariant-loop-i : goal.invariant-loop-i
invariant-loop-i l = l.tasks.items ++ of_literals (drop l.i l.branch.literals.keys) ≡ of_literals l.branch.literals.keys
