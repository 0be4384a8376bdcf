use Rattle.std.proofs.Common.{◌∙◌, Bool, sym, subst}
use Rattle.wy_link_load.specs.wy_top_answers.Calls.{AnswersFault}
use Rattle.wy_top_probe.specs.Texts.{fault_lines}
use Rattle.wy_top_probe.proofs.texts.fault_answer.Goals as goal

pub returns : goal.returns
returns c =
    let lines = fault_lines c.args.name.now c.args.bytes.now c.args.fault in
    record { value = subst (λ (b : Bool). AnswersFault b 1 lines c.refusal.result) (sym c.if-is_no_memory.false ∙ c.is_no_memory.ensures.value) (c.refusal.ensures.value lines c.fault_line.ensures.value) }
