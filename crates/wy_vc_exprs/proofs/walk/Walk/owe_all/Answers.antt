use Rattle.std.proofs.Common.{refl, ◌∙◌, get_or}
use Rattle.wy_vc_exprs.proofs.StateLemmas.{toward_begin}
use Rattle.wy_vc_exprs.proofs.OweLemmas.{owe_turn, owe_end, number_item}
use Rattle.wy_vc_exprs.proofs.walk.Walk.owe_all.Goals as goal

pub loop-goal-init : goal.loop-goal-init
loop-goal-init c = (toward_begin _ _ c.requires.sound, refl)

pub loop-goal-preserved : goal.loop-goal-preserved
loop-goal-preserved c = (
  owe_turn c.args.kind c.args.at c.args.self.now c.loop-goal.self c.owe.new.self c.args.goals.now c.loop-goal.goal-index (get_or c.args.goals.now c.loop-goal.goal-index 0) _
      c.loop-goal-test.true (number_item c.args.goals.now c.loop-goal.goal-index c.loop-goal-test.true) c.loop-goal.invariant.1 c.loop-goal.invariant.0 c.in_ok-owe.ensures.value,
  c.in_ok-owe.ensures.maker ∙ c.loop-goal.invariant.1,
)

pub returns-clause-value : goal.returns-clause-value
returns-clause-value c = owe_end c.args.kind c.args.at c.args.self.now c.loop-goal.self c.args.goals.now c.loop-goal.goal-index _ c.loop-goal-test.false c.loop-goal.invariant.0
