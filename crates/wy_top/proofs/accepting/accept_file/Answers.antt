use Rattle.std.proofs.Common.{ℕ, List, subst}
use Rattle.wy_top_probe.specs.wy_link_load.Alone.{loads_alone}
use Rattle.wy_top_probe.specs.wy_top_answers.Steps.{came, Gives}
use Rattle.wy_top_probe.proofs.wy_top_answers_proofs.DuringLemmas.{during_first, during_second}
use Rattle.wy_top_probe.proofs.wy_top_answers_proofs.StepLemmas.{goes, ends_there}
use Rattle.wy_top.specs.Acceptance.{accepts_source}
use Rattle.wy_top.specs.Kept.{acceptance_in}
use Rattle.wy_top.proofs.accepting.accept_file.Goals as goal

pub returns-in-Ok-clause-gives : goal.returns-in-Ok-clause-gives
returns-in-Ok-clause-gives g c = λ s during.
    let first = during_first s _ _ _ _ _ _ _ during c.in-Ok.ensures.load_count c.accept_source.ensures.load_count c.in-Ok.ensures.miss_count c.accept_source.ensures.miss_count in
    let second = during_second s _ _ _ _ _ _ _ _ during c.in-Ok.ensures.kept c.in-Ok.ensures.load_count c.accept_source.ensures.load_count c.in-Ok.ensures.miss_count c.accept_source.ensures.miss_count in
    goes s (loads_alone s c.args.name.now) (accepts_source s c.args.name.now c.args.cert.now c.args.budget) c.in-Ok.bytes (came acceptance_in c.accept_source.result)
    (c.in-Ok.ensures.gives s first)
    (subst (λ (b : List ℕ). Gives s (accepts_source s c.args.name.now c.args.cert.now c.args.budget b) (came acceptance_in c.accept_source.result)) c.as_slice.ensures.value (c.accept_source.ensures.gives s second))

pub returns-in-Err-clause-gives : goal.returns-in-Err-clause-gives
returns-in-Err-clause-gives g c = λ s during.
    ends_there s (loads_alone s c.args.name.now) (accepts_source s c.args.name.now c.args.cert.now c.args.budget) c.in-Err.answer (c.in-Err.ensures.gives s during)
