use Rattle.std.proofs.Common.{List, ℕ, Bool, length, sym, ◌∙◌, subst}
use Rattle.wy_core.specs.CoreSeen.{seen_block}
use Rattle.wy_vc_exprs.specs.wy_vc_spec.Numbered.{Node, numbered_block}
use Rattle.wy_vc_exprs.specs.wy_vc_spec.Statements.{Body, Renewed}
use Rattle.wy_vc_body.specs.Paths.{spot_of}
use Rattle.wy_vc_body.specs.Frames.{body_at}
use Rattle.wy_vc_body.specs.Loops.{Renews, renewed_names, renewed_types}
use Rattle.wy_vc_exprs.proofs.ResultLemmas.{on_ok}
use Rattle.wy_vc_body.proofs.FrameLemmas.{body_kept, frame_on}
use Rattle.wy_vc_body.proofs.NumberedLemmas.{numbered_assigns, numbered_bound}
use Rattle.wy_vc_body.proofs.LoopLemmas.{renew_by, renews_on}
use Rattle.wy_vc_body.proofs.loops.renew.Goals as goal

pub renew_types-requires-clause-frame : goal.renew_types-requires-clause-frame
renew_types-requires-clause-frame c = frame_on c.args.walk.now.maker.terms c.renew_names.new.walk.maker.terms c.in_ok-renew_names.ensures.value.kept c.args.frame.now c.requires.frame

pub returns-clause-value : goal.returns-clause-value
returns-clause-value c k =
    let a = c.args.walk.now in
    let b = c.renew_names.new.walk in
    let g = c.args.here.now in
    let h = c.renew_names.new.here in
    let B = body_at a.maker.terms c.args.frame.now in
    let ms = c.in_ok-marks.marks.items in
    let W = c.args.frame.now.routine.now.variables in
    let F = λ (ws : List (List ℕ)) (bs : List Bool). renewed_names ws bs 0 (length bs) (spot_of a g) a.maker.count in
    let first = subst (λ (bs : List Bool). Renews a b h (F W bs)) c.as_slice.ensures.value
    (subst (λ (ws : List (List ℕ)). Renews a b h (F ws c.as_slice.result.now)) c.as_slice-words.ensures c.in_ok-renew_names.ensures.value) in
    let G = λ (y : Body Node) (bs : List Bool). renewed_types y bs 0 (length bs) (spot_of b h) b.maker.count in
    on_ok c.renew_types.result _ _ c.renew_types.ensures.value
    (λ s.
    let s1 = subst (λ (bs : List Bool). Renews b c.renew_types.new.walk h (G (body_at b.maker.terms c.args.frame.now) bs)) c.as_slice-2.ensures.value s in
    let second = subst (λ (y : Body Node). Renews b c.renew_types.new.walk h (G y ms)) (body_kept a.maker.terms b.maker.terms first.kept c.args.frame.now c.requires.frame) s1 in
    let all = renews_on (renewed_types B ms 0 (length ms)) a b c.renew_types.new.walk h h (F W ms) first second in
    subst (λ (r : Renewed). Renews a c.renew_types.new.walk h r) (renew_by B (numbered_block (seen_block c.args.body.now) k) ms (spot_of a g) a.maker.count (λ x. c.in_ok-marks.ensures.each x ∙ sym (numbered_assigns (seen_block c.args.body.now) k x)) (c.in_ok-marks.ensures.count ∙ sym (numbered_bound (seen_block c.args.body.now) k))) all)
