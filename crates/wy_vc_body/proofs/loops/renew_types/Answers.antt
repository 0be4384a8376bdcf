use Rattle.std.proofs.Common.{List, ℕ, Bool, ◌&&◌, ◌∙◌, ap, subst}
use Rattle.wy_vc_exprs.specs.wy_vc_spec.Numbered.{Node}
use Rattle.wy_vc_exprs.specs.wy_vc_spec.Spots.{Spot, is_set}
use Rattle.wy_vc_exprs.specs.wy_vc_spec.Statements.{Body}
use Rattle.wy_vc_body.specs.Paths.{spot_of}
use Rattle.wy_vc_body.specs.Frames.{body_at}
use Rattle.wy_vc_body.specs.Loops.{Renews, type_if}
use Rattle.wy_vc_body.proofs.FrameLemmas.{body_kept, frame_on}
use Rattle.wy_vc_body.proofs.LoopLemmas.{renewing_turn}
use Rattle.wy_vc_body.proofs.loops.renew_types.Goals as goal

pub renew_type_if-requires-clause-frame : goal.renew_type_if-requires-clause-frame
renew_type_if-requires-clause-frame c = frame_on c.args.walk.now.maker.terms c.loop-x.walk.maker.terms c.loop-x.invariant.kept c.args.frame.now c.requires.frame

pub loop-x-preserved : goal.loop-x-preserved
loop-x-preserved c =
    let a = c.args.walk.now in
    let b = c.loop-x.walk in
    let h = c.args.here.now in
    let x = c.loop-x.x in
    let B = body_at a.maker.terms c.args.frame.now in
    let M = is_set c.args.marks.now x in
    let is = c.both-so.ensures.value ∙ ap (λ (m : Bool). m && c.is_set-has.result) c.is_set-marked.ensures.value
    ∙ ap (λ (m : Bool). M && m) (c.is_set-has.ensures.value ∙ ap (λ (bs : List Bool). is_set bs x) c.as_slice.ensures.value) in
    let one = subst (λ (y : Body Node). Renews b c.renew_type_if.new.walk h (type_if y x c.both-so.result (spot_of b h) b.maker.count)) (body_kept a.maker.terms b.maker.terms c.loop-x.invariant.kept c.args.frame.now c.requires.frame) c.in_ok-renew_type_if.ensures.value in
    let two = subst (λ (m : Bool). Renews b c.renew_type_if.new.walk h (type_if B x m (spot_of b h) b.maker.count)) is one in
    renewing_turn (λ (y : ℕ) (p : Spot) (n : ℕ). type_if B y (is_set c.args.marks.now y && is_set p.set y) p n) a b c.renew_type_if.new.walk h h x c.in_ok-most.most _ c.loop-x-test.true c.loop-x.invariant two c.in_ok-renew_type_if.ensures.node
