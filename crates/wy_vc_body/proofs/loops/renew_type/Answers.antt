use Rattle.std.proofs.Common.{List, ℕ, Option, refl, sym, ◌∙◌, ap, subst}
use Rattle.wy_core.specs.CoreSeen.{seen_ty}
use Rattle.wy_core.specs.declared.types.Ty.{Ty}
use Rattle.wy_sem.specs.Statements.{type_at}
use Rattle.wy_term.specs.Nodes.{tree_at}
use Rattle.wy_vc_exprs.specs.wy_vc_operations.Growing.{AreSlotsAt}
use Rattle.wy_vc_body.specs.Frames.{body_at}
use Rattle.wy_vc_body.specs.Types.{types_in}
use Rattle.wy_vc_exprs.specs.Slots.{slots_of}
use Rattle.wy_vc_exprs.specs.declared.walk.Walk.{Walk}
use Rattle.wy_vc_exprs.proofs.ResultLemmas.{on_ok}
use Rattle.wy_vc_exprs.proofs.SlotLemmas.{slots_itself}
use Rattle.wy_vc_exprs.proofs.StateLemmas.{sound_made}
use Rattle.wy_vc_body.proofs.LoopLemmas.{assume_any, assume_this, typed_renews}
use Rattle.wy_vc_body.proofs.loops.renew_type.Goals as goal

pub returns-in-None-clause-value : goal.returns-in-None-clause-value
returns-in-None-clause-value c =
    let a = c.args.walk.now in
    let b : Walk = record a { maker = record a.maker { terms = c.variable.new.terms } } in
    let B = body_at a.maker.terms c.args.frame.now in
    let V = slots_of a.maker.terms c.args.here.now.vars.items in
    let made = c.in_ok-term.ensures.made V (subst (λ (vs : List (Option ℕ)). AreSlotsAt a.maker.terms vs V) (sym c.as_slice.ensures.value) (slots_itself c.requires.slots)) in
    let any = c.in-None.ensures.value ∙ ap (λ (ts : List (Option Ty)). type_at (types_in ts) c.args.x) c.as_slice-2.ensures in
    typed_renews B c.args.x c.in_ok-term.term a b b c.args.here.now c.requires.sound c.requires.slots made refl refl refl
    (assume_any B (type_at B.types c.args.x) (tree_at b.maker.terms c.in_ok-term.term) b (sound_made a b c.requires.sound made.kept refl refl) any)

pub returns-in-Some-clause-value : goal.returns-in-Some-clause-value
returns-in-Some-clause-value c =
    let a = c.args.walk.now in
    let b : Walk = record a { maker = record a.maker { terms = c.variable.new.terms } } in
    let B = body_at a.maker.terms c.args.frame.now in
    let V = slots_of a.maker.terms c.args.here.now.vars.items in
    let made = c.in_ok-term.ensures.made V (subst (λ (vs : List (Option ℕ)). AreSlotsAt a.maker.terms vs V) (sym c.as_slice.ensures.value) (slots_itself c.requires.slots)) in
    let is = c.in-Some.ensures.value ∙ ap (λ (ts : List (Option Ty)). type_at (types_in ts) c.args.x) c.as_slice-2.ensures in
    on_ok c.assume_in_type.result _ _ c.assume_in_type.ensures.value
    (λ s. typed_renews B c.args.x c.in_ok-term.term a b c.assume_in_type.new.walk c.args.here.now c.requires.sound c.requires.slots made refl refl refl
    (assume_this B (seen_ty c.in-Some.ty.now) (type_at B.types c.args.x) (tree_at b.maker.terms c.in_ok-term.term) b c.assume_in_type.new.walk is s))
