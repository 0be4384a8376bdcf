use Rattle.std.proofs.Common.{take}
use Rattle.wy_vc.specs.Standing.{AreJoined}
use Rattle.wy_vc.proofs.standing.put_all_new.Given as goal

abbrev pub invariant-loop-number : goal.invariant-loop-number
invariant-loop-number l = AreJoined l.fn.types.items (take l.number-index l.more) l.types.items
