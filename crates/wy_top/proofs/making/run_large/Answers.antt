use Rattle.std.proofs.Common.{◌∙◌, ℕ, List, Ok, Err, subst}
use Rattle.wy_top_big.specs.Source.{argument_text, entry}
use Rattle.wy_top_probe.specs.wy_top_answers.Steps.{Answers, Gives}
use Rattle.wy_top_probe.proofs.wy_top_answers_proofs.AnswerLemmas.{ends_answers, memory_answers, then_answers}
use Rattle.wy_top.specs.Kept.{acceptance_in}
use Rattle.wy_top.specs.Programs.{count_of}
use Rattle.wy_top.specs.Large.{finishes, runs}
use Rattle.wy_top.specs.Launching.{starts}
use Rattle.wy_top.proofs.making.run_large.Goals as goal

pub returns-in-Err : goal.returns-in-Err
returns-in-Err c = record { answers = λ s. memory_answers s (runs c.args.functions c.args.seed c.args.steps (acceptance_in c.args.accepted)) c.no_memory.result c.no_memory.ensures.value }

pub returns-in-Ok-launched : goal.returns-in-Ok-launched
returns-in-Ok-launched c = record {
  answers = λ s.
      let a = acceptance_in c.args.accepted in
      let starting = subst (λ (t : List ℕ). Gives s (starts t (argument_text c.args.seed) a) (Ok c.in-Ok-launched.launch)) c.entry.ensures.value
      (subst (λ (t : List ℕ). Gives s (starts c.entry.result.now t a) (Ok c.in-Ok-launched.launch)) (c.as_str.ensures.value ∙ c.in-Ok.ensures.value) (c.in-Ok-launched.ensures.gives s)) in
      then_answers s (starts entry (argument_text c.args.seed) a) (λ l. finishes c.args.functions (count_of a.program) c.args.steps l) c.in-Ok-launched.launch c.finished.result starting
      (subst (λ (n : ℕ). Answers s (finishes c.args.functions n c.args.steps c.in-Ok-launched.launch) c.finished.result) c.requires.whole.count (c.finished.ensures.answers s));
}

pub returns : goal.returns
returns c = record {
  answers = λ s.
      let a = acceptance_in c.args.accepted in
      let starting = subst (λ (t : List ℕ). Gives s (starts t (argument_text c.args.seed) a) (Err c.in-Err-launched.answer)) c.entry.ensures.value
      (subst (λ (t : List ℕ). Gives s (starts c.entry.result.now t a) (Err c.in-Err-launched.answer)) (c.as_str.ensures.value ∙ c.in-Ok.ensures.value) (c.in-Err-launched.ensures.gives s)) in
      ends_answers s (starts entry (argument_text c.args.seed) a) (λ l. finishes c.args.functions (count_of a.program) c.args.steps l) c.in-Err-launched.answer starting;
}
