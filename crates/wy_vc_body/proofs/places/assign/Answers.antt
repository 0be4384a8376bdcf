use Rattle.std.proofs.Common.{List, ℕ, Option, ◌+◌, refl, sym, ◌∙◌, ap, subst}
use Rattle.std.specs.Option.{option_copied}
use Rattle.wy_core.specs.declared.types.Ty.{Ty}
use Rattle.wy_core.specs.CoreSeen.{seen_expr, seen_step}
use Rattle.std.specs.Prelude.{map}
use Rattle.wy_vc_exprs.specs.wy_vc_spec.Numbered as numbers
use Rattle.wy_vc_exprs.specs.wy_vc_spec.Sizes.{exprs_in_path}
use Rattle.wy_vc_exprs.specs.wy_vc_spec.Statements as spec
use Rattle.wy_sem.specs.Statements.{type_at}
use Rattle.wy_term.specs.Nodes.{tree_at}
use Rattle.wy_vc_exprs.specs.wy_vc_operations.Growing.{AreSlotsAt}
use Rattle.wy_vc_body.specs.Frames.{body_at}
use Rattle.wy_vc_body.specs.Types.{or_any, types_in}
use Rattle.wy_vc_exprs.specs.Walking.{walk_of}
use Rattle.wy_vc_exprs.specs.Slots.{AreSlots, slots_of}
use Rattle.wy_vc_exprs.specs.State.{Walks, hyps_of}
use Rattle.wy_vc_exprs.specs.declared.walk.Walk.{Walk}
use Rattle.wy_vc_exprs.proofs.NumberedLemmas.{kept_then}
use Rattle.wy_vc_exprs.proofs.ResultLemmas.{on_ok}
use Rattle.wy_vc_exprs.proofs.SlotLemmas.{slots_itself, slots_on}
use Rattle.wy_vc_body.specs.Places.{Along}
use Rattle.wy_vc_body.proofs.AssignLemmas.{assigned_went}
use Rattle.wy_vc_body.proofs.FrameLemmas.{frame_on}
use Rattle.wy_vc_body.proofs.places.assign.Goals as goal

pub parts_along-requires-clause-frame : goal.parts_along-requires-clause-frame
parts_along-requires-clause-frame c =
    let a = c.args.walk.now in
    let V = slots_of a.maker.terms c.args.here.now.vars.items in
    let made = c.in_ok-whole.ensures.made V (subst (λ (vs : List (Option ℕ)). AreSlotsAt a.maker.terms vs V) (sym c.as_slice.ensures.value) (slots_itself c.requires.slots)) in
    frame_on a.maker.terms c.variable.new.terms made.kept c.args.frame.now c.requires.frame

pub parts_along-requires-clause-slots : goal.parts_along-requires-clause-slots
parts_along-requires-clause-slots c =
    let a = c.args.walk.now in
    let V = slots_of a.maker.terms c.args.here.now.vars.items in
    let made = c.in_ok-whole.ensures.made V (subst (λ (vs : List (Option ℕ)). AreSlotsAt a.maker.terms vs V) (sym c.as_slice.ensures.value) (slots_itself c.requires.slots)) in
    subst (λ (vs : List (Option ℕ)). AreSlots c.variable.new.terms vs) (sym c.as_slice-2.ensures.value) (slots_on a.maker.terms c.variable.new.terms made.kept c.args.here.now.vars.items c.requires.slots)

pub walked-requires-clause-slots : goal.walked-requires-clause-slots
walked-requires-clause-slots c =
    let a = c.args.walk.now in
    let V = slots_of a.maker.terms c.args.here.now.vars.items in
    let made = c.in_ok-whole.ensures.made V (subst (λ (vs : List (Option ℕ)). AreSlotsAt a.maker.terms vs V) (sym c.as_slice.ensures.value) (slots_itself c.requires.slots)) in
    let kept = kept_then made.kept c.in_ok-parts.ensures.value.steps.kept in
    subst (λ (vs : List (Option ℕ)). AreSlots c.parts_along.new.walk.maker.terms vs) (sym c.as_slice-vars.ensures.value) (slots_on a.maker.terms c.parts_along.new.walk.maker.terms kept c.args.here.now.vars.items c.requires.slots)

pub give-requires-clause-frame : goal.give-requires-clause-frame
give-requires-clause-frame c =
    let a = c.args.walk.now in
    let V = slots_of a.maker.terms c.args.here.now.vars.items in
    let made = c.in_ok-whole.ensures.made V (subst (λ (vs : List (Option ℕ)). AreSlotsAt a.maker.terms vs V) (sym c.as_slice.ensures.value) (slots_itself c.requires.slots)) in
    let value = c.in_ok-value.ensures.value in
    let with = c.in_ok-value-2.ensures.made _ value.is in
    let kept = kept_then (kept_then (kept_then made.kept c.in_ok-parts.ensures.value.steps.kept) value.steps.kept) with.kept in
    frame_on a.maker.terms c.rebuilt.new.terms kept c.args.frame.now c.requires.frame

pub give-requires-clause-slots : goal.give-requires-clause-slots
give-requires-clause-slots c =
    let a = c.args.walk.now in
    let V = slots_of a.maker.terms c.args.here.now.vars.items in
    let made = c.in_ok-whole.ensures.made V (subst (λ (vs : List (Option ℕ)). AreSlotsAt a.maker.terms vs V) (sym c.as_slice.ensures.value) (slots_itself c.requires.slots)) in
    let value = c.in_ok-value.ensures.value in
    let with = c.in_ok-value-2.ensures.made _ value.is in
    let kept = kept_then (kept_then (kept_then made.kept c.in_ok-parts.ensures.value.steps.kept) value.steps.kept) with.kept in
    slots_on a.maker.terms c.rebuilt.new.terms kept c.args.here.now.vars.items c.requires.slots

pub returns-clause-value : goal.returns-clause-value
returns-clause-value c =
    let a = c.args.walk.now in
    let frame = c.args.frame.now in
    let h = c.args.here.now in
    let V = slots_of a.maker.terms h.vars.items in
    let made = c.in_ok-whole.ensures.made V (subst (λ (vs : List (Option ℕ)). AreSlotsAt a.maker.terms vs V) (sym c.as_slice.ensures.value) (slots_itself c.requires.slots)) in
    let z : Walk = record a { maker = record a.maker { terms = c.variable.new.terms } } in
    let b = c.parts_along.new.walk in
    let m = c.walked.new.walk in
    let d : Walk = record m { maker = record m.maker { terms = c.rebuilt.new.terms } } in
    let path = numbers.numbered_path (map seen_step c.args.path.now) a.maker.node in
    let along = subst (λ (vs : List (Option ℕ)). Along z b c.in_ok-parts.parts.items (spec.along (body_at z.maker.terms frame) path (tree_at z.maker.terms c.in_ok-whole.whole) (slots_of z.maker.terms vs) (hyps_of z) z.maker.count)) c.as_slice-2.ensures.value c.in_ok-parts.ensures.value in
    let X = λ (ws : List (List ℕ)) (k : ℕ) (vs : List (Option ℕ)). walk_of frame.core.now frame.program.now ws (seen_expr c.args.expr.now) k (slots_of b.maker.terms vs) (hyps_of b) b.maker.count in
    let w1 = subst (λ (ws : List (List ℕ)). Walks b m c.in_ok-value.value (X ws b.maker.node c.as_slice-vars.result.now)) c.as_slice-words.ensures c.in_ok-value.ensures.value in
    let w2 = subst (λ (vs : List (Option ℕ)). Walks b m c.in_ok-value.value (X frame.routine.now.variables b.maker.node vs)) c.as_slice-vars.ensures.value w1 in
    let walk = subst (λ (k : ℕ). Walks b m c.in_ok-value.value (X frame.routine.now.variables k h.vars.items)) c.in_ok-parts.ensures.node w2 in
    on_ok c.give.result _ _ c.give.ensures.value
    (λ s. assigned_went frame c.args.at c.args.x c.in_ok-whole.whole c.in_ok-value.value c.in_ok-value-2.value path (numbers.numbered (seen_expr c.args.expr.now) (a.maker.node + exprs_in_path (map seen_step c.args.path.now))) (or_any (option_copied c.type_of-ty.result))
    a z b m d c.give.new.walk h c.give.new.here c.in_ok-parts.parts.items c.requires.sound c.requires.frame c.requires.slots (c.type_of-ty.ensures.value ∙ ap (λ (ts : List (Option Ty)). type_at (types_in ts) c.args.x) c.as_slice-3.ensures) made refl refl refl along walk c.in_ok-value-2.ensures.made refl refl refl s)
