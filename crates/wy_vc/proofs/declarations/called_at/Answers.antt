use Rattle.std.proofs.Common.{refl, ◌∙◌, ap}
use Rattle.wy_core.specs.CoreSeen.{seen_exprs}
use Rattle.wy_vc_spec.specs.Sizes.{exprs_in_list}
use Rattle.wy_vc.proofs.DeclarationLemmas.{called_here}
use Rattle.wy_vc.proofs.declarations.called_at.Goals as goal

pub returns-clause-called : goal.returns-clause-called
returns-clause-called c =
    called_here c.args.routine.now c.args.first c.in_ok-before.before c.in_ok-between.between c.in_ok-postconditions.postconditions c.in_ok-body.body _ refl refl refl
    (c.in_ok-before.ensures.value ∙ ap (λ es. exprs_in_list (seen_exprs es)) c.as_slice.ensures) (c.in_ok-between.ensures.value ∙ ap (λ es. exprs_in_list (seen_exprs es)) c.as_slice-2.ensures)
    c.in_ok-postconditions.ensures.value c.in_ok-body.ensures.value
