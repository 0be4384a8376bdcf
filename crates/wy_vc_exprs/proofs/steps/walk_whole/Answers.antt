use Rattle.std.proofs.Common.{refl}
use Rattle.wy_vc_exprs.proofs.StepLemmas.{finish_made}
use Rattle.std.specs.Int.{w128}
use Rattle.std.proofs.lemmas.Int.{to_z-of_z}
use Rattle.wy_vc_exprs.proofs.steps.walk_whole.Goals as goal

pub returns-clause-value : goal.returns-clause-value
returns-clause-value c =
    let made = rw (to_z-of_z w128 c.args.number c.ranges.number) at c.in_ok-made.ensures.made in
    finish_made _ _ _ _ _ _ c.requires.sound made c.in_ok-pass.ensures.after refl refl
