use Rattle.std.proofs.Common.{List, Option, ℕ, sym, subst}
use Rattle.wy_core.specs.CoreSeen.{seen_expr, seen_ty}
use Rattle.wy_vc_spec.specs.Numbered.{numbered}
use Rattle.wy_vc_body.proofs.FrameLemmas.{frame_on}
use Rattle.wy_vc_body.specs.wy_vc_exprs.Slots.{AreSlots}
use Rattle.wy_vc_body.proofs.wy_vc_exprs_proofs.SlotLemmas.{slots_on}
use Rattle.wy_vc.proofs.SimpleLemmas.{valued_went, walked_by}
use Rattle.wy_vc.proofs.simple.declare_value.Goals as goal

pub walked-requires-clause-slots : goal.walked-requires-clause-slots
walked-requires-clause-slots c = subst (λ (vs : List (Option ℕ)). AreSlots c.args.walk.now.maker.terms vs) (sym c.as_slice-vars.ensures.value) c.requires.slots

pub give-requires-clause-frame : goal.give-requires-clause-frame
give-requires-clause-frame c = frame_on c.args.walk.now.maker.terms c.walked.new.walk.maker.terms c.in_ok-term.ensures.value.steps.kept c.args.frame.now c.requires.frame

pub give-requires-clause-slots : goal.give-requires-clause-slots
give-requires-clause-slots c = slots_on c.args.walk.now.maker.terms c.walked.new.walk.maker.terms c.in_ok-term.ensures.value.steps.kept c.args.here.vars.items c.requires.slots

pub returns-clause-value : goal.returns-clause-value
returns-clause-value c = λ around.
    let a = c.args.walk.now in
    let b = c.walked.new.walk in
    let E = seen_expr c.args.value.now in
    let walk = walked_by c.args.frame.now E c.as_slice-words.result.now c.as_slice-vars.result.now c.args.here.vars.items a b c.in_ok-term.term c.as_slice-words.ensures c.as_slice-vars.ensures.value c.in_ok-term.ensures.value in
    valued_went c.args.frame.now around c.args.at (seen_ty c.args.ty.now) c.args.x c.in_ok-term.term (numbered E a.maker.node) a b c.give.new.walk c.args.here c.give.new.here c.requires.frame c.requires.slots walk c.in_ok-give.ensures.value
