use Rattle.std.proofs.Common.{◌∙◌, sym}
use Rattle.wy_vc.proofs.TestedLemmas.{quiet_turn}
use Rattle.wy_vc.proofs.testing.is_any_testing.Goals as goal

pub loop-number-preserved : goal.loop-number-preserved
loop-number-preserved c = quiet_turn c.args.marks.now c.args.numbers.now c.loop-number.number-index c.loop-number-test.true (sym c.is_testing-marked.ensures.value ∙ c.if-marked.false) c.loop-number.invariant
