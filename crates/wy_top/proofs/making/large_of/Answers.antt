use Rattle.std.proofs.Common.{ℕ, List, subst}
use Rattle.wy_top_probe.specs.wy_top_answers.Steps.{Answers}
use Rattle.wy_top_probe.proofs.wy_top_answers_proofs.AnswerLemmas.{ends_answers, then_answers}
use Rattle.wy_top.specs.Large.{accepts_and_runs, makes}
use Rattle.wy_top.proofs.making.large_of.Goals as goal

pub returns-in-Ok-clause-answers : goal.returns-in-Ok-clause-answers
returns-in-Ok-clause-answers g c = λ s during.
    then_answers s (makes c.args.functions c.args.seed) (λ bytes. accepts_and_runs s c.args.functions c.args.seed c.args.budget c.args.steps bytes) c.in-Ok.source c.accept_large.result
    (c.in-Ok.ensures.gives s)
    (subst (λ (b : List ℕ). Answers s (accepts_and_runs s c.args.functions c.args.seed c.args.budget c.args.steps b) c.accept_large.result) c.as_slice.ensures.value (c.accept_large.ensures.answers s during))

pub returns-in-Err-clause-answers : goal.returns-in-Err-clause-answers
returns-in-Err-clause-answers g c = λ s during.
    ends_answers s (makes c.args.functions c.args.seed) (λ bytes. accepts_and_runs s c.args.functions c.args.seed c.args.budget c.args.steps bytes) c.in-Err.answer (c.in-Err.ensures.gives s)
