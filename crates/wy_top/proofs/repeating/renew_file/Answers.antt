use Rattle.std.proofs.Common.{ℕ, List, subst}
use Rattle.std.proofs.lemmas.Result.{IfOk-weaker}
use Rattle.std.specs.Prelude.{IfOk}
use Rattle.wy_top_probe.specs.wy_link_load.Alone.{loads_alone}
use Rattle.wy_top_probe.proofs.wy_link_load_proofs.AloneLemmas.{takes_nothing}
use Rattle.wy_top_probe.specs.wy_top_answers.Steps.{came, Gives}
use Rattle.wy_top_probe.proofs.wy_top_answers_proofs.DuringLemmas.{during_first, during_second}
use Rattle.wy_top_probe.proofs.wy_top_answers_proofs.StepLemmas.{goes, ends_there, stated_value}
use Rattle.wy_top.specs.Again.{Renews, RenewsBytes, renews_source}
use Rattle.wy_top.specs.Kept.{answer_in}
use Rattle.wy_top.specs.declared.proving.Proof.{Proof}
use Rattle.wy_top.proofs.repeating.renew_file.Goals as goal

pub returns-in-Ok-clause-gives : goal.returns-in-Ok-clause-gives
returns-in-Ok-clause-gives g c = λ s during.
    let first = during_first s _ _ _ _ _ _ _ during c.in-Ok.ensures.load_count c.renew_source.ensures.load_count c.in-Ok.ensures.miss_count c.renew_source.ensures.miss_count in
    let second = during_second s _ _ _ _ _ _ _ _ during c.in-Ok.ensures.kept c.in-Ok.ensures.load_count c.renew_source.ensures.load_count c.in-Ok.ensures.miss_count c.renew_source.ensures.miss_count in
    goes s (loads_alone s c.args.name.now) (renews_source s c.args.name.now c.args.cache.now c.args.budget) c.in-Ok.bytes (came answer_in c.renew_source.result)
    (c.in-Ok.ensures.gives s first)
    (subst (λ (b : List ℕ). Gives s (renews_source s c.args.name.now c.args.cache.now c.args.budget b) (came answer_in c.renew_source.result)) c.as_slice.ensures.value (c.renew_source.ensures.gives s second))

pub returns-in-Err-clause-gives : goal.returns-in-Err-clause-gives
returns-in-Err-clause-gives g c = λ s during.
    ends_there s (loads_alone s c.args.name.now) (renews_source s c.args.name.now c.args.cache.now c.args.budget) c.in-Err.answer (c.in-Err.ensures.gives s during)

pub returns-in-Ok-clause-file : goal.returns-in-Ok-clause-file
returns-in-Ok-clause-file g c = λ s during.
    let first = during_first s _ _ _ _ _ _ _ during c.in-Ok.ensures.load_count c.renew_source.ensures.load_count c.in-Ok.ensures.miss_count c.renew_source.ensures.miss_count in
    let second = during_second s _ _ _ _ _ _ _ _ during c.in-Ok.ensures.kept c.in-Ok.ensures.load_count c.renew_source.ensures.load_count c.in-Ok.ensures.miss_count c.renew_source.ensures.miss_count in
    let alone = takes_nothing s c.args.name.now c.in-Ok.bytes (stated_value s (loads_alone s c.args.name.now) c.in-Ok.bytes (c.in-Ok.ensures.gives s first)) in
    let file = subst (λ (b : List ℕ). IfOk c.renew_source.result (λ (f : Proof). RenewsBytes s c.args.cache.now c.args.budget b f.saved)) c.as_slice.ensures.value (c.renew_source.ensures.file s second) in
    IfOk-weaker c.renew_source.result (λ (f : Proof). RenewsBytes s c.args.cache.now c.args.budget c.in-Ok.bytes f.saved) (λ (f : Proof). Renews s c.args.name.now c.args.cache.now c.args.budget f.saved)
    (λ f h. record { bytes = c.in-Ok.bytes; alone = alone; renews = h }) file
