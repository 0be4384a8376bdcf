use Rattle.std.proofs.Common.{◌≡◌, ℕ, List, Some, sym, ap, subst}
use Rattle.std.specs.Prelude.{IfOk}
use Rattle.std.specs.String.{string_bytes}
use Rattle.wy_top_probe.proofs.wy_top_answers_proofs.AnswerLemmas.{memory_answers}
use Rattle.wy_port.specs.SinkInMemory.{SinkState}
use Rattle.wy_top_probe.specs.wy_top_answers.report.Lines.{steps_spent}
use Rattle.wy_top_probe.specs.wy_mach_run.Running.{state_of}
use Rattle.wy_top_probe.specs.wy_mach_run.declared.end.RunEnd.{RunEnd}
use Rattle.wy_top.specs.Large.{IsLine, finishes}
use Rattle.wy_top.proofs.LargeLemmas.{GoesWith, end_answers}
use Rattle.wy_top.proofs.making.finished.Goals as goal

pub returns-in-Err : goal.returns-in-Err
returns-in-Err c = record { answers = λ s. memory_answers s (finishes c.args.functions c.args.conditions c.args.steps c.args.launch.now) c.no_memory.result c.no_memory.ensures.value }

pub returns-in-Ok-Done : goal.returns-in-Ok-Done
returns-in-Ok-Done c = record {
  answers = λ s.
      let wrote = c.run_start.new.out.bytes in
      let line = subst (λ (w : List ℕ). IsLine c.args.functions c.args.conditions w c.line.result) c.bytes.ensures.value c.line.ensures.value in
      end_answers s c.args.functions c.args.conditions c.args.launch.now (state_of c.args.launch.now.start c.args.steps) c.in-Ok-Done.field-0 _ wrote _ _ c.line.result (ap (λ (k : SinkState). Some k.bytes) c.in-Ok.ensures.value)
      c.in-Ok-Done.ensures.runs (subst (λ (e : RunEnd). GoesWith c.args.functions c.args.conditions wrote e c.line.result) (sym c.in-Ok-Done.field-0-is) line);
}

pub returns-in-Ok-Spent : goal.returns-in-Ok-Spent
returns-in-Ok-Spent c = record {
  answers = λ s.
      let wrote = c.run_start.new.out.bytes in
      let text = subst (λ (t : List ℕ). IfOk c.from_str.result (λ s. string_bytes s ≡ t)) c.steps_spent.ensures.value c.from_str.ensures.ok in
      end_answers s c.args.functions c.args.conditions c.args.launch.now (state_of c.args.launch.now.start c.args.steps) c.in-Ok-Spent.field-0 _ wrote _ _ c.refusal.result (ap (λ (k : SinkState). Some k.bytes) c.in-Ok.ensures.value)
      c.in-Ok-Spent.ensures.runs (subst (λ (e : RunEnd). GoesWith c.args.functions c.args.conditions wrote e c.refusal.result) (sym c.in-Ok-Spent.field-0-is) (c.refusal.ensures.value steps_spent text));
}

pub returns-in-Ok-OutFault : goal.returns-in-Ok-OutFault
returns-in-Ok-OutFault c = record {
  answers = λ s.
      memory_answers s (finishes c.args.functions c.args.conditions c.args.steps c.args.launch.now) c.no_memory-in-Ok-OutFault.result c.no_memory-in-Ok-OutFault.ensures.value;
}

pub returns : goal.returns
returns c = record {
  answers = λ s.
      memory_answers s (finishes c.args.functions c.args.conditions c.args.steps c.args.launch.now) c.no_memory-in-Err-run_start.result c.no_memory-in-Err-run_start.ensures.value;
}
