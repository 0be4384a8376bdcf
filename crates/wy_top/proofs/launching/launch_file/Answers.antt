use Rattle.wy_top_probe.proofs.wy_top_answers_proofs.StepLemmas.{goes, ends_there}
use Rattle.wy_top.specs.Acceptance.{accepts_file}
use Rattle.wy_top.specs.Kept.{acceptance_in}
use Rattle.wy_top.specs.Launching.{starts}
use Rattle.wy_top.proofs.launching.launch_file.Goals as goal

pub returns-in-Ok-clause-gives : goal.returns-in-Ok-clause-gives
returns-in-Ok-clause-gives g c = λ s during.
    goes s (accepts_file s c.args.source.now c.args.cert.now c.args.budget) (λ a. starts c.args.name.now c.args.arguments.now a) (acceptance_in c.in-Ok.accepted) c.launched.result
    (c.in-Ok.ensures.gives s during) (c.launched.ensures.gives s)

pub returns-in-Err-clause-gives : goal.returns-in-Err-clause-gives
returns-in-Err-clause-gives g c = λ s during.
    ends_there s (accepts_file s c.args.source.now c.args.cert.now c.args.budget) (λ a. starts c.args.name.now c.args.arguments.now a) c.in-Err.answer (c.in-Err.ensures.gives s during)
