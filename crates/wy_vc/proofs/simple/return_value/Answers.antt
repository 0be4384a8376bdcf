use Rattle.std.proofs.Common.{List, Option, ℕ, sym, subst}
use Rattle.wy_core.specs.CoreSeen.{seen_expr}
use Rattle.wy_vc_spec.specs.Numbered.{numbered}
use Rattle.wy_vc_body.proofs.FrameLemmas.{frame_on}
use Rattle.wy_vc_body.specs.wy_vc_exprs.Slots.{AreSlots}
use Rattle.wy_vc_body.proofs.wy_vc_exprs_proofs.ResultLemmas.{on_ok}
use Rattle.wy_vc.proofs.SimpleLemmas.{returned_went, walked_by}
use Rattle.wy_vc.proofs.simple.return_value.Goals as goal

pub walked-requires-clause-slots : goal.walked-requires-clause-slots
walked-requires-clause-slots c = subst (λ (vs : List (Option ℕ)). AreSlots c.args.walk.now.maker.terms vs) (sym c.as_slice-vars.ensures.value) c.requires.slots

pub leave-requires-clause-frame : goal.leave-requires-clause-frame
leave-requires-clause-frame c = frame_on c.args.walk.now.maker.terms c.walked.new.walk.maker.terms c.in_ok-term.ensures.value.steps.kept c.args.frame.now c.requires.frame

pub returns-clause-value : goal.returns-clause-value
returns-clause-value c = λ around.
    let a = c.args.walk.now in
    let b = c.walked.new.walk in
    let E = seen_expr c.args.value.now in
    let walk = walked_by c.args.frame.now E c.as_slice-words.result.now c.as_slice-vars.result.now c.args.here.now.vars.items a b c.in_ok-term.term c.as_slice-words.ensures c.as_slice-vars.ensures.value c.in_ok-term.ensures.value in
    on_ok c.leave.result _ _ c.leave.ensures.value (λ s. returned_went c.args.frame.now around c.args.at c.in_ok-term.term (numbered E a.maker.node) a b c.leave.new.walk c.args.here.now c.requires.frame walk s)
