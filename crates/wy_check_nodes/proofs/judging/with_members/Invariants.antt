use Rattle.std.proofs.Common.{length}
use Rattle.wy_check_nodes.specs.Seen.{AreBelow}
use Rattle.wy_check_nodes.proofs.judging.with_members.Given as goal

abbrev pub invariant-loop-member : goal.invariant-loop-member
invariant-loop-member l = AreBelow (length l.terms) l.todo.items
