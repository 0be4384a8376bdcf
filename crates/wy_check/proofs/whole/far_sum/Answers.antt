use Rattle.std.proofs.Common.{◌*◌}
use Rattle.wy_check.proofs.WholeLemmas.{above_least, far_unless_least, far_negative}
use Rattle.wy_check.proofs.whole.far_sum.Goals as goal

pub returns-then-z-neminus170141183460469231731687303715884105728 : goal.returns-then-z-neminus170141183460469231731687303715884105728
returns-then-z-neminus170141183460469231731687303715884105728 c = far_unless_least c.args.z c.args.negative (c.args.x * c.args.y) c.ranges.z (above_least c.args.z c.ranges.z c.if-z-neminus170141183460469231731687303715884105728.true) c.requires

pub returns-then-negative : goal.returns-then-negative
returns-then-negative c = far_negative c.args.z c.args.negative (c.args.x * c.args.y) c.ranges.z c.if-negative.true c.requires
