use Rattle.std.proofs.Common.{arith}
use Rattle.wy_check.proofs.WholeLemmas.{far_over}
use Rattle.wy_check.proofs.whole.sum.Goals as goal
use Rattle.wy_lemmas.proofs.Choices.{bits_are as same_sign}

pub returns-in-None : goal.returns-in-None
returns-in-None c = far_over c.args.x c.args.y (same_sign c.args.x.negative c.args.y.negative c.if-x-y.true) (omega (arith, c.in-None.ensures))
