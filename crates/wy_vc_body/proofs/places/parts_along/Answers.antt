use Rattle.wy_vc_exprs.proofs.SlotLemmas.{slots_on}
use Rattle.wy_vc_body.proofs.FrameLemmas.{frame_on}
use Rattle.wy_vc_body.proofs.PlaceLemmas.{along_turn, path_turn}
use Rattle.wy_vc_body.proofs.places.parts_along.Goals as goal

pub step_in-requires-clause-frame : goal.step_in-requires-clause-frame
step_in-requires-clause-frame c = frame_on c.args.walk.now.maker.terms c.loop-step.walk.maker.terms c.loop-step.invariant.0.kept c.args.frame.now c.requires.frame

pub step_in-requires-clause-slots : goal.step_in-requires-clause-slots
step_in-requires-clause-slots c = slots_on c.args.walk.now.maker.terms c.loop-step.walk.maker.terms c.loop-step.invariant.0.kept c.args.vars.now c.requires.slots

pub loop-step-preserved : goal.loop-step-preserved
loop-step-preserved c = (
  along_turn c.args.frame.now c.args.vars.now c.args.walk.now c.loop-step.walk c.step_in.new.walk c.loop-step.parts.items c.push.new.self.items c.in_ok-led.led.part c.loop-step.inner c.in_ok-led.led.whole c.loop-step.step-index c.args.path.now c.step-item.result _
      c.requires.frame c.requires.slots c.loop-step-test.true c.step-item.is c.loop-step.invariant.0 c.in_ok-led.ensures.value c.in_ok-led.ensures.node c.in_ok-push.ensures.items,
  path_turn c.args.path.now c.loop-step.step-index c.step-item.result c.loop-step.walk.maker.node c.step_in.new.walk.maker.node _ c.loop-step-test.true c.step-item.is c.loop-step.invariant.1 c.in_ok-led.ensures.node,
)
