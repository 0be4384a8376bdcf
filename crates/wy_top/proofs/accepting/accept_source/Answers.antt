use Rattle.wy_top_probe.specs.wy_top_answers.Steps.{came}
use Rattle.wy_top_probe.proofs.wy_top_answers_proofs.StepLemmas.{goes, ends_there}
use Rattle.wy_top.specs.Acceptance.{accepts_with}
use Rattle.wy_top.specs.Kept.{acceptance_in, program_in}
use Rattle.wy_top.specs.Programs.{owes}
use Rattle.wy_top.proofs.accepting.accept_source.Goals as goal

pub returns-in-Ok-clause-gives : goal.returns-in-Ok-clause-gives
returns-in-Ok-clause-gives g c = λ s during.
    goes s (owes c.args.name.now c.args.bytes.now) (accepts_with s c.args.name.now c.args.cert.now c.args.budget c.args.bytes.now) (program_in c.in-Ok.owed) (came acceptance_in c.accept_with.result)
    (c.in-Ok.ensures.gives s) (c.accept_with.ensures.gives s during)

pub returns-in-Err-clause-gives : goal.returns-in-Err-clause-gives
returns-in-Err-clause-gives g c = λ s during.
    ends_there s (owes c.args.name.now c.args.bytes.now) (accepts_with s c.args.name.now c.args.cert.now c.args.budget c.args.bytes.now) c.in-Err.answer (c.in-Err.ensures.gives s)
