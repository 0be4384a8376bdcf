use Rattle.std.proofs.Common.{refl}
use Rattle.wy_vc_exprs.proofs.StepLemmas.{finish_tested}
use Rattle.wy_vc_exprs.proofs.NumberedLemmas.{at_itself}
use Rattle.wy_vc_exprs.proofs.steps.walk_is.Goals as goal

pub returns-clause-value : goal.returns-clause-value
returns-clause-value c =
    let f = c.in_ok-holds.ensures.made c.requires.described _ (at_itself c.requires.v) in
    finish_tested _ _ c.holds.new.maker _ _ _ _ _ c.requires.sound f.term f.names (c.in_ok-made.ensures.made _ f.term.here) c.in_ok-pass.ensures.after refl refl
