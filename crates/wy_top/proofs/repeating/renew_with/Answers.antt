use Rattle.std.proofs.lemmas.Result.{IfOk-weaker}
use Rattle.wy_top_probe.specs.wy_top_answers.Steps.{came}
use Rattle.wy_top_probe.proofs.wy_top_answers_proofs.StepLemmas.{goes, ends_there, stated_value}
use Rattle.wy_top.specs.Again.{IsCacheOf, RenewsProgram, renews}
use Rattle.wy_top.specs.Caches.{caches}
use Rattle.wy_top.specs.Kept.{answer_in, entries_in, program_in}
use Rattle.wy_top.specs.declared.proving.Proof.{Proof}
use Rattle.wy_top.proofs.repeating.renew_with.Goals as goal

pub returns-in-Ok-clause-gives : goal.returns-in-Ok-clause-gives
returns-in-Ok-clause-gives g c = λ s during.
    let p = program_in c.args.owed in
    goes s (caches s c.args.cache.now) (renews c.args.name.now c.args.bytes.now p c.args.budget) (entries_in c.in-Ok.cache) (came answer_in c.renew_on.result)
    (c.in-Ok.ensures.gives s during) (c.renew_on.ensures.gives s)

pub returns-in-Err-clause-gives : goal.returns-in-Err-clause-gives
returns-in-Err-clause-gives g c = λ s during.
    ends_there s (caches s c.args.cache.now) (renews c.args.name.now c.args.bytes.now (program_in c.args.owed) c.args.budget) c.in-Err.answer (c.in-Err.ensures.gives s during)

pub returns-in-Ok-clause-file : goal.returns-in-Ok-clause-file
returns-in-Ok-clause-file g c = λ s during.
    let p = program_in c.args.owed in
    let es = entries_in c.in-Ok.cache in
    IfOk-weaker c.renew_on.result (λ (f : Proof). IsCacheOf p c.args.budget es f.saved) (λ (f : Proof). RenewsProgram s c.args.cache.now c.args.budget p f.saved)
    (λ f h. record { entries = es; cached = stated_value s (caches s c.args.cache.now) es (c.in-Ok.ensures.gives s during); file = h }) c.renew_on.ensures.file
