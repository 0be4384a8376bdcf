use Rattle.std.proofs.Common.{refl}
use Rattle.wy_vc_exprs.proofs.StepLemmas.{begin_steps, begin_bound, name_word, name_count}
use Rattle.wy_vc_exprs.proofs.StateLemmas.{sound_made}
use Rattle.wy_vc_exprs.proofs.steps.begin_range.Goals as goal

pub assume_from-requires-clause-sound : goal.assume_from-requires-clause-sound
assume_from-requires-clause-sound c =
    let n = name_word _ _ _ _ _ _ _ c.in_ok-word.ensures.value c.in_ok-number.ensures.value c.in_ok-number.ensures.after c.in_ok-name.ensures.made in
    sound_made _ _ c.requires.sound n.kept refl refl

pub returns-clause-value : goal.returns-clause-value
returns-clause-value c =
    let n = name_word _ _ _ _ _ _ _ c.in_ok-word.ensures.value c.in_ok-number.ensures.value c.in_ok-number.ensures.after c.in_ok-name.ensures.made in
    let s = c.in_ok-assume_from.ensures.value in
    let t = c.in_ok-assume_below.ensures.value in
    begin_steps _ _ _ _ _ _ _ _ _ c.requires.sound c.requires.from c.requires.below n (name_count _ _ c.in_ok-number.ensures.after) refl refl s t
    (c.in_ok-bound.ensures.made _ (begin_bound _ _ _ _ _ _ _ _ n s t)).kept refl refl refl

pub returns-clause-bound : goal.returns-clause-bound
returns-clause-bound c =
    let n = name_word _ _ _ _ _ _ _ c.in_ok-word.ensures.value c.in_ok-number.ensures.value c.in_ok-number.ensures.after c.in_ok-name.ensures.made in
    (c.in_ok-bound.ensures.made _ (begin_bound _ _ _ _ _ _ _ _ n c.in_ok-assume_from.ensures.value c.in_ok-assume_below.ensures.value)).here
