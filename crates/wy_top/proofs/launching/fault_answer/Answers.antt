use Rattle.std.proofs.Common.{◌∙◌, ◌++◌, ℕ, Bool, sym, subst}
use Rattle.wy_top_probe.specs.wy_top_answers.Answers.{IsRefusal}
use Rattle.wy_top_probe.specs.wy_top_answers.Calls.{AnswersFault}
use Rattle.wy_top.specs.Launching.{fault_line, fault_status}
use Rattle.wy_top.proofs.launching.fault_answer.Goals as goal

pub returns : goal.returns
returns c =
    let line = fault_line c.args.name.now c.args.fault in
    let lines = c.args.lines ++ line in
    record {
      value = subst (λ (b : Bool). AnswersFault b (fault_status c.args.fault) lines c.refusal_behind.result) (sym c.if-lacks_memory.false ∙ c.lacks_memory.ensures.value)
          (subst (λ (n : ℕ). IsRefusal n lines c.refusal_behind.result) c.fault_status.ensures.value (c.refusal_behind.ensures.value line c.fault_line.ensures.value));
    }
