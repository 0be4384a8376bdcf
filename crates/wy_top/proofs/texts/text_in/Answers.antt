use Rattle.std.proofs.Common.{ℕ, List, subst}
use Rattle.wy_top_probe.specs.wy_top_answers.Steps.{Gives}
use Rattle.wy_top_probe.proofs.wy_top_answers_proofs.StepLemmas.{goes, ends_there}
use Rattle.wy_top.specs.Texts.{source_for, text}
use Rattle.wy_top.proofs.texts.text_in.Goals as goal

pub returns-in-Ok-clause-gives : goal.returns-in-Ok-clause-gives
returns-in-Ok-clause-gives g c = λ s during.
    goes s (source_for s c.args.kind c.args.name.now) (λ bytes. text c.args.kind c.args.name.now bytes) c.in-Ok.bytes c.read_text.result (c.in-Ok.ensures.gives s during)
    (subst (λ (b : List ℕ). Gives s (text c.args.kind c.args.name.now b) c.read_text.result) c.as_slice.ensures.value (c.read_text.ensures.gives s))

pub returns-in-Err-clause-gives : goal.returns-in-Err-clause-gives
returns-in-Err-clause-gives g c = λ s during.
    ends_there s (source_for s c.args.kind c.args.name.now) (λ bytes. text c.args.kind c.args.name.now bytes) c.in-Err.answer (c.in-Err.ensures.gives s during)
