use Rattle.std.proofs.Common.{◌<◌, List, ℕ, length, refl, subst, arith}
use Rattle.wy_core.specs.CoreSeen.{seen_expr}
use Rattle.wy_vc_exprs.specs.wy_vc_spec.Numbered.{numbered}
use Rattle.wy_vc_exprs.specs.Walking.{walk_of}
use Rattle.wy_vc_exprs.specs.Slots.{slots_of}
use Rattle.wy_vc_exprs.specs.State.{Walks, hyps_of}
use Rattle.wy_vc_exprs.specs.declared.walk.Walk.{Walk}
use Rattle.wy_vc_exprs.proofs.NumberedLemmas.{at_itself}
use Rattle.wy_vc_body.specs.Frames.{body_at}
use Rattle.wy_vc_body.proofs.PlaceLemmas.{element_step}
use Rattle.wy_vc_body.proofs.places.step_in_array.Goals as goal
use Rattle.wy_vc_exprs.proofs.wy_vc_operations_proofs.GrowingLemmas.{here_kept}

pub returns-clause-value : goal.returns-clause-value
returns-clause-value c =
    let frame = c.args.frame.now in
    let a = c.args.walk.now in
    let b = c.walked.new.walk in
    let d = c.owe_index.new.walk in
    let f : Walk = record d { maker = record d.maker { terms = c.index.new.terms } } in
    let E = seen_expr c.args.expr.now in
    let V = slots_of a.maker.terms c.args.vars.now in
    let place = c.in_ok-place.place in
    let first = subst (λ (ws : List (List ℕ)). Walks a b place (walk_of frame.core.now frame.program.now ws E a.maker.node V (hyps_of a) a.maker.count)) c.as_slice-words.ensures c.in_ok-place.ensures.value in
    let second = c.in_ok-owe_index.ensures.value in
    let whole : c.args.whole < length d.maker.terms = omega (arith, first.steps.kept.grows, second.kept.grows, c.requires.within) in
    element_step (body_at a.maker.terms frame) (numbered E a.maker.node) c.args.at c.args.whole place c.in_ok-inner.inner (walk_of frame.core.now frame.program.now frame.routine.now.variables E a.maker.node V (hyps_of a) a.maker.count) V a b d f c.requires.within first refl second
    (c.in_ok-inner.ensures.made _ _ (at_itself whole) (at_itself (here_kept second.kept first.is).within)) refl refl refl
