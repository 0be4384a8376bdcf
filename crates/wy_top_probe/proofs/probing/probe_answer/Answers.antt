use Rattle.std.proofs.Common.{ℕ, List, subst}
use Rattle.wy_link_load.specs.Alone.{loads_alone}
use Rattle.wy_link_load.specs.wy_top_answers.Steps.{Answers}
use Rattle.wy_link_load.proofs.wy_top_answers_proofs.AnswerLemmas.{ends_answers, then_answers}
use Rattle.wy_top_probe.specs.Probing.{probes_source}
use Rattle.wy_top_probe.proofs.probing.probe_answer.Goals as goal

pub returns-in-Ok-clause-answers : goal.returns-in-Ok-clause-answers
returns-in-Ok-clause-answers g c = λ s during.
    then_answers s (loads_alone s c.args.source.now) (probes_source c.args.source.now c.args.name.now c.args.tuples c.args.ticks) c.in-Ok.bytes c.probe_source.result
    (c.in-Ok.ensures.gives s during)
    (subst (λ (b : List ℕ). Answers s (probes_source c.args.source.now c.args.name.now c.args.tuples c.args.ticks b) c.probe_source.result) c.as_slice.ensures.value (c.probe_source.ensures.answers s))

pub returns-in-Err-clause-answers : goal.returns-in-Err-clause-answers
returns-in-Err-clause-answers g c = λ s during.
    ends_answers s (loads_alone s c.args.source.now) (probes_source c.args.source.now c.args.name.now c.args.tuples c.args.ticks) c.in-Err.answer (c.in-Err.ensures.gives s during)
