use Rattle.std.proofs.Common.{◌+◌, ◌*◌}
use Rattle.wy_batch.proofs.discharging.+fn-worked-join+arg2+fn-worked-join+arg3+worked.Given as goal

abbrev pub decreases-worked : goal.decreases-worked
decreases-worked g l = 2 * l.workers

abbrev pub decreases-join+arg2 : goal.decreases-join+arg2
decreases-join+arg2 g l = 2 * l.rest + 1

abbrev pub decreases-join+arg3 : goal.decreases-join+arg3
decreases-join+arg3 g l = 2 * l.half + 1
