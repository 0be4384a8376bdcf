use Rattle.std.proofs.Common.{reverse, vec_len}
use Rattle.wy_heap.specs.Standing.{Stands}
use Rattle.wy_mach.specs.States.{places_below}
use Rattle.wy_mach.proofs.machine.leave_all.Given as goal

abbrev pub invariant-callers : goal.invariant-callers
invariant-callers l = Stands l.heap (places_below (reverse l.callers.items))

abbrev pub decreases-callers : goal.decreases-callers
decreases-callers l = vec_len l.callers
