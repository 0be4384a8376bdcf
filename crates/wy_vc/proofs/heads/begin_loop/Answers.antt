use Rattle.std.proofs.Common.{◌+◌, ◌∙◌, List, Option, ℕ, sym, ap, subst}
use Rattle.wy_core.specs.CoreSeen.{seen_block, seen_expr, seen_exprs}
use Rattle.wy_vc_spec.specs.Numbered.{numbered, numbered_block, numbered_list}
use Rattle.wy_vc_spec.specs.Sizes.{exprs_in}
use Rattle.wy_vc_body.specs.Frames.{body_at}
use Rattle.wy_vc_body.proofs.FrameLemmas.{frame_on}
use Rattle.wy_vc_body.specs.Paths.{spot_of}
use Rattle.wy_vc_body.specs.wy_vc_exprs.Slots.{AreSlots}
use Rattle.wy_vc_body.proofs.wy_vc_exprs_proofs.ResultLemmas.{if_ok}
use Rattle.wy_vc_body.proofs.wy_vc_exprs_proofs.SlotLemmas.{slots_on}
use Rattle.wy_vc.specs.Heads.{Enters, entered}
use Rattle.wy_vc.proofs.HeadLemmas.{begins_from}
use Rattle.wy_vc.proofs.heads.begin_loop.Goals as goal

pub test_at-requires-clause-frame : goal.test_at-requires-clause-frame
test_at-requires-clause-frame c = frame_on c.args.walk.now.maker.terms c.enter_loop.new.walk.maker.terms (c.in_ok-here.ensures.value 0).moves.kept c.args.frame.now c.requires.frame

pub test_at-requires-clause-sound : goal.test_at-requires-clause-sound
test_at-requires-clause-sound c = (c.in_ok-here.ensures.value 0).moves.sound

pub test_at-requires-clause-slots : goal.test_at-requires-clause-slots
test_at-requires-clause-slots c = subst (λ (vs : List (Option ℕ)). AreSlots c.enter_loop.new.walk.maker.terms vs) (sym c.as_slice.ensures.value) (c.in_ok-here.ensures.value 0).spot.slots

pub part_ways-requires-clause-slots : goal.part_ways-requires-clause-slots
part_ways-requires-clause-slots c = slots_on c.enter_loop.new.walk.maker.terms c.test_at.new.walk.maker.terms c.in_ok-tested.ensures.value.steps.kept c.in_ok-here.here.vars.items (c.in_ok-here.ensures.value 0).spot.slots

pub returns-clause-value : goal.returns-clause-value
returns-clause-value c = λ k.
    let a = c.args.walk.now in
    let B = body_at a.maker.terms c.args.frame.now in
    let E = λ (i : ℕ). entered B c.args.at (numbered_list (seen_exprs c.args.invariants.now) i) (numbered_block (seen_block c.args.body.now) k) (spot_of a c.args.here) a.maker.count in
    let first = c.in_ok-first.ensures.value ∙ ap (λ (n : ℕ). a.maker.node + n) c.in_ok-exprs_in.ensures.value in
    let enters = subst (λ (i : ℕ). Enters a c.enter_loop.new.walk c.in_ok-here.here (E i)) first (c.in_ok-here.ensures.value k) in
    if_ok c.part_ways.result _ _ c.part_ways.ensures.value
    (λ head s. begins_from c.args.frame.now (numbered (seen_expr c.args.test.now) a.maker.node) c.as_slice.result.now (E (a.maker.node + exprs_in (seen_expr c.args.test.now))) a c.enter_loop.new.walk c.test_at.new.walk c.part_ways.new.walk c.in_ok-tested.tested c.in_ok-here.here head c.requires.frame c.as_slice.ensures.value enters c.in_ok-tested.ensures.value s)
