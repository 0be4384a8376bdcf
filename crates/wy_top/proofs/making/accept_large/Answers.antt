use Rattle.wy_top_probe.specs.wy_top_answers.supplied.Certificates.{no_file}
use Rattle.wy_top_probe.proofs.wy_top_answers_proofs.AnswerLemmas.{ends_answers, then_answers}
use Rattle.wy_top.specs.Acceptance.{accepts_source}
use Rattle.wy_top.specs.Kept.{acceptance_in}
use Rattle.wy_top.specs.Large.{large_name, runs}
use Rattle.wy_top.proofs.making.accept_large.Goals as goal

pub returns-in-Ok-clause-answers : goal.returns-in-Ok-clause-answers
returns-in-Ok-clause-answers g c = λ s during.
    then_answers s (accepts_source s large_name no_file c.args.budget c.args.source.now) (λ a. runs c.args.functions c.args.seed c.args.steps a) (acceptance_in c.in-Ok.accepted) c.run_large.result
    (c.in-Ok.ensures.gives s during) (c.run_large.ensures.answers s)

pub returns-in-Err-clause-answers : goal.returns-in-Err-clause-answers
returns-in-Err-clause-answers g c = λ s during.
    ends_answers s (accepts_source s large_name no_file c.args.budget c.args.source.now) (λ a. runs c.args.functions c.args.seed c.args.steps a) c.in-Err.answer (c.in-Err.ensures.gives s during)
