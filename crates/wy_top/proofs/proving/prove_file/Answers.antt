use Rattle.std.proofs.Common.{ℕ, List, subst}
use Rattle.std.proofs.lemmas.Result.{IfOk-weaker}
use Rattle.std.specs.Prelude.{IfOk}
use Rattle.wy_top_probe.specs.wy_link_load.Alone.{loads_alone}
use Rattle.wy_top_probe.proofs.wy_link_load_proofs.AloneLemmas.{takes_nothing}
use Rattle.wy_top_probe.specs.wy_top_answers.Steps.{came, Gives}
use Rattle.wy_top_probe.proofs.wy_top_answers_proofs.StepLemmas.{goes, ends_there, stated_value}
use Rattle.wy_top.specs.Kept.{answer_in}
use Rattle.wy_top.specs.Proofs.{Proves, ProvesBytes, proves_source}
use Rattle.wy_top.specs.declared.proving.Proof.{Proof}
use Rattle.wy_top.proofs.proving.prove_file.Goals as goal

pub returns-in-Ok-clause-gives : goal.returns-in-Ok-clause-gives
returns-in-Ok-clause-gives g c = λ s during.
    goes s (loads_alone s c.args.name.now) (proves_source c.args.name.now c.args.budget) c.in-Ok.bytes (came answer_in c.prove_source.result)
    (c.in-Ok.ensures.gives s during)
    (subst (λ (b : List ℕ). Gives s (proves_source c.args.name.now c.args.budget b) (came answer_in c.prove_source.result)) c.as_slice.ensures.value (c.prove_source.ensures.gives s))

pub returns-in-Err-clause-gives : goal.returns-in-Err-clause-gives
returns-in-Err-clause-gives g c = λ s during.
    ends_there s (loads_alone s c.args.name.now) (proves_source c.args.name.now c.args.budget) c.in-Err.answer (c.in-Err.ensures.gives s during)

pub returns-in-Ok-clause-file : goal.returns-in-Ok-clause-file
returns-in-Ok-clause-file g c = λ s during.
    let alone = takes_nothing s c.args.name.now c.in-Ok.bytes (stated_value s (loads_alone s c.args.name.now) c.in-Ok.bytes (c.in-Ok.ensures.gives s during)) in
    let file = subst (λ (b : List ℕ). IfOk c.prove_source.result (λ (f : Proof). ProvesBytes b c.args.budget f.saved)) c.as_slice.ensures.value c.prove_source.ensures.file in
    IfOk-weaker c.prove_source.result (λ (f : Proof). ProvesBytes c.in-Ok.bytes c.args.budget f.saved) (λ (f : Proof). Proves s c.args.name.now c.args.budget f.saved)
    (λ f h. record { bytes = c.in-Ok.bytes; alone = alone; proves = h }) file
