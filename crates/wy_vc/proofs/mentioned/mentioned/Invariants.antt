use Rattle.std.proofs.Common.{length}
use Rattle.wy_vc.specs.Meanings.{tests_at}
use Rattle.wy_vc.specs.Mentioned.{IsReaching}
use Rattle.wy_vc.proofs.mentioned.mentioned.Given as goal

abbrev pub invariant-loop-turn : goal.invariant-loop-turn
invariant-loop-turn l = IsReaching (tests_at l.meanings) (length l.meanings) l.begun l.marks.items l.todo.items
