use Rattle.std.proofs.lemmas.Result.{IfOk-weaker}
use Rattle.wy_top_probe.specs.wy_top_answers.Steps.{came}
use Rattle.wy_top_probe.proofs.wy_top_answers_proofs.StepLemmas.{goes, ends_there}
use Rattle.wy_top.specs.Again.{RenewsBytes, RenewsProgram, renews_with}
use Rattle.wy_top.specs.Kept.{answer_in, program_in}
use Rattle.wy_top.specs.Programs.{owes}
use Rattle.wy_top.specs.declared.proving.Proof.{Proof}
use Rattle.wy_top.proofs.repeating.renew_source.Goals as goal

pub returns-in-Ok-clause-gives : goal.returns-in-Ok-clause-gives
returns-in-Ok-clause-gives g c = λ s during.
    goes s (owes c.args.name.now c.args.bytes.now) (renews_with s c.args.name.now c.args.cache.now c.args.budget c.args.bytes.now) (program_in c.in-Ok.owed) (came answer_in c.renew_with.result)
    (c.in-Ok.ensures.gives s) (c.renew_with.ensures.gives s during)

pub returns-in-Err-clause-gives : goal.returns-in-Err-clause-gives
returns-in-Err-clause-gives g c = λ s during.
    ends_there s (owes c.args.name.now c.args.bytes.now) (renews_with s c.args.name.now c.args.cache.now c.args.budget c.args.bytes.now) c.in-Err.answer (c.in-Err.ensures.gives s)

pub returns-in-Ok-clause-file : goal.returns-in-Ok-clause-file
returns-in-Ok-clause-file g c = λ s during.
    let p = program_in c.in-Ok.owed in
    IfOk-weaker c.renew_with.result (λ (f : Proof). RenewsProgram s c.args.cache.now c.args.budget p f.saved) (λ (f : Proof). RenewsBytes s c.args.cache.now c.args.budget c.args.bytes.now f.saved)
    (λ f h. record { program = p; owes = c.in-Ok.ensures.owes; renews = h }) (c.renew_with.ensures.file s during)
