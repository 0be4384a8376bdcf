use Rattle.std.proofs.Common.{◌≡◌, ◌++◌, drop}
use Rattle.wy_cong.proofs.walk.first_tasks.Given as goal
use Rattle.wy_cong.specs.Walk.{of_literals, of_pending}

-- what is put and what is left come to all
abbrev pub invariant-loop-i : goal.invariant-loop-i
invariant-loop-i l = l.tasks.items ++ of_pending (drop l.i l.branch.pending.keys) ≡ of_literals l.branch.literals.keys ++ of_pending l.branch.pending.keys
