use Rattle.std.proofs.Common.{◌∙◌}
use Rattle.wy_code.proofs.pieces_lemmas.StepLemmas.{registers_more}
use Rattle.wy_code.proofs.pieces.steps.registers_from.Goals as goal

pub loop-preserved : goal.loop-preserved
loop-preserved c = registers_more c.loop.registers c.push.new.self c.loop.here c.in_ok-here.here c.args.count c.loop.counter c.in_ok-push.ensures.ok c.in_ok-here.ensures.value c.loop-test.true ∙ c.loop.invariant
