use Rattle.std.proofs.Common.{◌∙◌}
use Rattle.wy_code.proofs.pieces_lemmas.PlacingLemmas.{body_more, room_more}
use Rattle.wy_code.proofs.pieces.placing.routine_of.Goals as goal

pub loop-step-preserved : goal.loop-step-preserved
loop-step-preserved c = record {
  placed = body_more c.loop-step.body c.push.new.self c.loop-step.backwards.items c.pop.new.self.items c.loop-step.at c.in_ok-at.at c.in-Some.step c.in_ok-instr.instr
      c.in-Some.ensures.items c.in_ok-instr.ensures.value c.in_ok-push.ensures.ok c.in_ok-at.ensures.value ∙ c.loop-step.invariant.placed;
  registers = room_more c.loop-step.registers c.in_ok-registers.registers c.loop-step.backwards.items c.pop.new.self.items c.loop-step.at c.in_ok-at.at c.in-Some.step c.in_ok-instr.instr
      c.in-Some.ensures.items c.in_ok-instr.ensures.value c.in_ok-registers.ensures.value c.in_ok-at.ensures.value ∙ c.loop-step.invariant.registers;
}
