-- Assignments to a variable or to a part of one.
use Rattle.std.proofs.Common.{◌≡◌, ℕ, List, [], ◌++◌, Some, ◌∙◌, ap, subst}
use Rattle.std.proofs.lemmas.List.{append-nil}
use Rattle.wy_core.specs.Types.{Ty}
use Rattle.wy_core.specs.CoreTree as tree
use Rattle.wy_term.specs.Term.{Term}
use Rattle.wy_term.specs.Nodes.{tree_at}
use Rattle.wy_term.specs.Numbers.{IsAt}
use Rattle.wy_sem.specs.Statements.{type_at}
use Rattle.wy_vc_exprs.specs.wy_vc_spec.Clauses.{Passed, passed}
use Rattle.wy_vc_exprs.specs.wy_vc_spec.Numbered.{Node}
use Rattle.wy_vc_exprs.specs.wy_vc_spec.Owed.{Owed}
use Rattle.wy_vc_exprs.specs.wy_vc_spec.Spots.{spot}
use Rattle.wy_vc_exprs.specs.wy_vc_spec.Statements as spec
use Rattle.wy_vc_exprs.specs.wy_vc_spec.Values.{variable}
use Rattle.wy_vc_exprs.specs.wy_vc_spec.Variables.{Vars}
use Rattle.wy_vc_exprs.specs.wy_vc_operations.Growing.{Kept, Makes}
use Rattle.wy_vc_body.specs.declared.here.Here.{Here}
use Rattle.wy_vc_exprs.specs.Slots.{AreSlots, slots_of}
use Rattle.wy_vc_exprs.specs.State.{IsSound, Steps, Walks, hyps_of, passed_by}
use Rattle.wy_vc_exprs.specs.declared.walk.Walk.{Walk}
use Rattle.wy_vc_exprs.proofs.SlotLemmas.{slots_kept}
use Rattle.wy_vc_exprs.proofs.StateLemmas.{steps_on, steps_as, steps_made}
use Rattle.wy_vc_body.specs.Paths.{spot_of}
use Rattle.wy_vc_body.specs.declared.frame.Frame.{Frame}
use Rattle.wy_vc_body.specs.declared.places.Part.{Part}
use Rattle.wy_vc_body.specs.Frames.{IsFrame, body_at}
use Rattle.wy_vc_body.specs.Going.{Went}
use Rattle.wy_vc_body.specs.Places.{Along, seen_parts}
use Rattle.wy_vc_body.proofs.FrameLemmas.{body_kept, went_on}
use Rattle.wy_vc_body.proofs.PlaceLemmas.{parts_kept}

-- terms are made behind steps
pub steps_then_made : (a b c : Walk) (p : Passed) → Steps a b p → Kept b.maker.terms c.maker.terms → c.hyps.items ≡ b.hyps.items → c.owed.items ≡ b.owed.items → c.maker.count ≡ b.maker.count → Steps a c p
steps_then_made a b c p first kept hyps owed count =
    let all = steps_on (λ hs n. passed c.maker.count hs []) a b c p first (steps_made b c first.sound kept hyps owed) in
    steps_as a c (passed c.maker.count p.hyps (p.owed ++ [])) p (ap (λ (n : ℕ). passed n p.hyps (p.owed ++ [])) (count ∙ first.count) ∙ ap (λ (os : List Owed). passed p.count p.hyps os) (append-nil p.owed)) all

pub assigned_went : (frame : Frame) (at x whole r m : ℕ) (path : List (tree.Step Node)) (e : tree.Expr Node) (t : Ty) (a z b c d f : Walk) (h h' : Here) (ps : List Part)
    → IsSound a → IsFrame a.maker.terms frame → AreSlots a.maker.terms h.vars.items → t ≡ type_at (body_at a.maker.terms frame).types x
    → Makes a.maker.terms z.maker.terms whole (variable (slots_of a.maker.terms h.vars.items) x) → z.hyps.items ≡ a.hyps.items → z.owed.items ≡ a.owed.items → z.maker.count ≡ a.maker.count
    → Along z b ps (spec.along (body_at z.maker.terms frame) path (tree_at z.maker.terms whole) (slots_of z.maker.terms h.vars.items) (hyps_of z) z.maker.count)
    → Walks b c r (spec.expr (body_at a.maker.terms frame) e (slots_of b.maker.terms h.vars.items) (hyps_of b) b.maker.count)
    → ((v : Term) → IsAt c.maker.terms r v → Makes c.maker.terms d.maker.terms m (spec.rebuilt (seen_parts c.maker.terms ps) v)) → d.hyps.items ≡ c.hyps.items → d.owed.items ≡ c.owed.items → d.maker.count ≡ c.maker.count
    → Went d f (Some h') (spec.given (body_at d.maker.terms frame) at t x (tree_at d.maker.terms m) [] (spot_of d h) (hyps_of d) d.maker.count)
    → Went a f (Some h') (spec.assigned (body_at a.maker.terms frame) at x path e (spot_of a h) a.maker.count)
assigned_went frame at x whole r m path e t a z b c d f h h' ps sound is_frame slots type made_z hyps_z owed_z count_z along walk made_d hyps_d owed_d count_d give =
    let B = body_at a.maker.terms frame in
    let V = slots_of a.maker.terms h.vars.items in
    let W = variable V x in
    let s0 = steps_made a z sound made_z.kept hyps_z owed_z in
    let same : spec.along (body_at z.maker.terms frame) path (tree_at z.maker.terms whole) (slots_of z.maker.terms h.vars.items) (hyps_of z) z.maker.count ≡ spec.along B path W V (hyps_of a) a.maker.count =
    ap (λ (y : spec.Body Node). spec.along y path (tree_at z.maker.terms whole) (slots_of z.maker.terms h.vars.items) (hyps_of z) z.maker.count) (body_kept a.maker.terms z.maker.terms made_z.kept frame is_frame)
    ∙ ap (λ (u : Term). spec.along B path u (slots_of z.maker.terms h.vars.items) (hyps_of z) z.maker.count) made_z.here.is
    ∙ ap (λ (vs : Vars). spec.along B path W vs (hyps_of z) z.maker.count) (slots_kept a.maker.terms z.maker.terms made_z.kept h.vars.items slots)
    ∙ ap (λ (hs : List Term). spec.along B path W V hs z.maker.count) s0.hyps
    ∙ ap (λ (n : ℕ). spec.along B path W V (hyps_of a) n) count_z in
    let A = spec.along B path W V (hyps_of a) a.maker.count in
    let along' = subst (λ (y : spec.Along). Along z b ps y) same along in
    let to_b = steps_on (λ hs n. passed A.count A.hyps A.owed) a z b (passed z.maker.count (hyps_of a) []) s0 along'.steps in
    let v = spec.expr B e V A.hyps A.count in
    let walk' = subst (λ (vs : Vars). Walks b c r (spec.expr B e vs (hyps_of b) b.maker.count)) (slots_kept a.maker.terms b.maker.terms to_b.kept h.vars.items slots) walk in
    let term : tree_at c.maker.terms r ≡ v.term = walk'.is.is ∙ ap (λ (hs : List Term). (spec.expr B e V hs b.maker.count).term) to_b.hyps ∙ ap (λ (n : ℕ). (spec.expr B e V A.hyps n).term) to_b.count in
    let to_c = steps_on (λ hs n. passed_by (spec.expr B e V hs n)) a b c (passed A.count A.hyps A.owed) to_b walk'.steps in
    let parts : seen_parts c.maker.terms ps ≡ A.parts = parts_kept b.maker.terms c.maker.terms walk'.steps.kept ps along'.are ∙ along'.parts in
    let made = subst (λ (qs : List spec.Part). Makes c.maker.terms d.maker.terms m (spec.rebuilt qs v.term)) parts (made_d v.term (record { within = walk'.is.within; is = term })) in
    let P = passed v.count v.hyps (A.owed ++ v.owed) in
    let to_d = steps_then_made a c d P to_c made.kept hyps_d owed_d count_d in
    let F = λ (y : spec.Body Node) (u : Term) (vs : Vars) (hs : List Term) (n : ℕ). spec.given y at t x u [] (spot (hyps_of a) vs h.set.items) hs n in
    let all = went_on a d f P (Some h') (spec.given (body_at d.maker.terms frame) at t x (tree_at d.maker.terms m) [] (spot_of d h) (hyps_of d) d.maker.count) (F B (spec.rebuilt A.parts v.term) V v.hyps v.count) to_d give
    (ap (λ (y : spec.Body Node). F y (tree_at d.maker.terms m) (slots_of d.maker.terms h.vars.items) (hyps_of d) d.maker.count) (body_kept a.maker.terms d.maker.terms to_d.kept frame is_frame)
    ∙ ap (λ (u : Term). F B u (slots_of d.maker.terms h.vars.items) (hyps_of d) d.maker.count) made.here.is
    ∙ ap (λ (vs : Vars). F B (spec.rebuilt A.parts v.term) vs (hyps_of d) d.maker.count) (slots_kept a.maker.terms d.maker.terms to_d.kept h.vars.items slots)
    ∙ ap (λ (hs : List Term). F B (spec.rebuilt A.parts v.term) V hs d.maker.count) to_d.hyps
    ∙ ap (λ (n : ℕ). F B (spec.rebuilt A.parts v.term) V v.hyps n) to_d.count) in
    subst (λ (u : Ty). Went a f (Some h') (spec.given B at u x (spec.rebuilt A.parts v.term) (A.owed ++ v.owed) (spot_of a h) v.hyps v.count)) type all
