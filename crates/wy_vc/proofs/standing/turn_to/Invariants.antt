use Rattle.std.proofs.Common.{◌≡◌, take}
use Rattle.wy_vc.specs.Standing.{Stands}
use Rattle.wy_vc.proofs.standing.turn_to.Given as goal

abbrev pub invariant-loop-index : goal.invariant-loop-index
invariant-loop-index l = Stands l.terms l.standing × (l.standing.hyps.items ≡ take l.index l.hyps)
