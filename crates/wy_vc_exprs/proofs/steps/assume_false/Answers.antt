use Rattle.std.proofs.Common.{refl}
use Rattle.wy_vc_exprs.proofs.StepLemmas.{made_assumed, onward}
use Rattle.wy_vc_exprs.proofs.NumberedLemmas.{at_itself, kept_then}
use Rattle.wy_vc_exprs.proofs.ResultLemmas.{on_ok}
use Rattle.wy_vc_exprs.proofs.StateLemmas.{sound_made}
use Rattle.wy_vc_exprs.proofs.steps.assume_false.Goals as goal

pub assume-requires-clause-sound : goal.assume-requires-clause-sound
assume-requires-clause-sound c =
    let m = c.in_ok-formula.ensures.made _ (at_itself c.requires.v) in
    let d = c.in_ok-denied.ensures.made _ m.here in
    sound_made _ _ c.requires.sound (kept_then m.kept d.kept) refl refl

pub returns-clause-value : goal.returns-clause-value
returns-clause-value c =
    let m = c.in_ok-formula.ensures.made _ (at_itself c.requires.v) in
    let d = c.in_ok-denied.ensures.made _ m.here in
    on_ok c.assume.result _ _ c.assume.ensures.value (λ s. made_assumed _ _ _ _ _ c.requires.sound (onward m.kept d) refl refl refl s)
