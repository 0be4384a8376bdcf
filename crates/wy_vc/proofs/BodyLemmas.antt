-- What bodies owe.
use Rattle.std.proofs.Common.{◌≡◌, ◌+◌, ℕ, List, [], ◌∷◌, ◌++◌, Option, refl, sym, ◌∙◌, ap, subst}
use Rattle.wy_core.specs.CoreSeen.{seen_block, seen_exprs, seen_output, seen_routine}
use Rattle.wy_core.specs.CoreTree.{Expr}
use Rattle.wy_core.specs.Types.{Ty}
use Rattle.wy_core.specs.declared.expressions.Expr as e
use Rattle.wy_core.specs.declared.statements.Stmt as st
use Rattle.wy_term.specs.Term.{Term}
use Rattle.wy_term.specs.Nodes.{Plain}
use Rattle.wy_sem.specs.Evaluation.{types_of}
use Rattle.wy_vc_spec.specs.Clauses.{assume_clauses}
use Rattle.wy_vc_spec.specs.Numbered.{Node, numbered_block, numbered_list}
use Rattle.wy_vc_spec.specs.Owed.{Owed, assume}
use Rattle.wy_vc_spec.specs.Programs as spec
use Rattle.wy_vc_spec.specs.Sizes.{exprs_in_list}
use Rattle.wy_vc_spec.specs.Spots.{Spot, Flow, spot, with_hyps}
use Rattle.wy_vc_spec.specs.Statements.{Body, exec_all}
use Rattle.wy_vc_spec.specs.Values.{Setting, named_in, clause_formula}
use Rattle.wy_vc_spec.specs.Variables.{Vars}
use Rattle.wy_vc_body.specs.wy_vc_operations.Growing.{Kept}
use Rattle.wy_vc_body.specs.declared.here.Here.{Here}
use Rattle.wy_vc_body.specs.Types.{types_in}
use Rattle.wy_vc_body.proofs.NumberedLemmas.{numbered_types}
use Rattle.wy_vc_body.specs.wy_vc_exprs.Slots.{AreSlots, slots_of}
use Rattle.wy_vc_body.specs.wy_vc_exprs.State.{Steps, hyps_of, owed_of}
use Rattle.wy_vc_body.specs.wy_vc_exprs.declared.walk.Walk.{Walk}
use Rattle.wy_vc_body.proofs.wy_vc_exprs_proofs.NumberedLemmas.{kept_then}
use Rattle.wy_vc_body.proofs.wy_vc_exprs_proofs.SlotLemmas.{slots_kept}
use Rattle.wy_vc_body.proofs.wy_vc_exprs_proofs.StateLemmas.{steps_as, steps_noded}
use Rattle.wy_vc_body.specs.Paths.{spot_of}
use Rattle.wy_vc_body.specs.Frames.{IsFrame, body_at, routine_of}
use Rattle.wy_vc_body.specs.Frames as frames
use Rattle.wy_vc_body.specs.Going.{Went}
use Rattle.wy_vc_body.specs.Loops.{Renews}
use Rattle.wy_vc_body.specs.declared.frame.Frame.{Frame}
use Rattle.wy_vc_body.proofs.FrameLemmas.{body_kept}
use Rattle.wy_vc_tables.specs.program_names.Described.{setting}
use Rattle.wy_vc.specs.Entering.{Owes}
use Rattle.wy_vc.proofs.OwingLemmas.{owes_as, owes_from, owes_then}

-- what is assumed of clauses owes nothing
assumed_owed : (s : Setting Node) (words : List (List ℕ)) (es : List (Expr Node)) (vars : Vars) (hyps : List Term) (n : ℕ) → (assume_clauses s words es vars hyps n).owed ≡ []
assumed_owed s words [] vars hyps n = refl
assumed_owed s words (x ∷ es) vars hyps n =
    assumed_owed s words es vars (assume hyps (clause_formula s (named_in s) words x vars n).term) (clause_formula s (named_in s) words x vars n).count

-- by the words, the clauses, their number and the terms of variables
assumed_as : (s : Setting Node) (ws words : List (List ℕ)) (es clauses : List e.Expr) (j k : ℕ) (us vars : Vars) (a b : Walk) → ws ≡ words → es ≡ clauses → j ≡ k → us ≡ vars
    → Steps a b (assume_clauses s ws (numbered_list (seen_exprs es) j) us (hyps_of a) a.maker.count)
    → Steps a b (assume_clauses s words (numbered_list (seen_exprs clauses) k) vars (hyps_of a) a.maker.count)
assumed_as s ws words es clauses j k us vars a b same_words same_clauses same_number same_vars step =
    let W = λ (w : List (List ℕ)) (l : List e.Expr) (i : ℕ) (vs : Vars). assume_clauses s w (numbered_list (seen_exprs l) i) vs (hyps_of a) a.maker.count in
    steps_as a b (W ws es j us) (W words clauses k vars)
    (ap (λ (w : List (List ℕ)). W w es j us) same_words ∙ ap (λ (l : List e.Expr). W words l j us) same_clauses ∙ ap (λ (i : ℕ). W words clauses i us) same_number ∙ ap (λ (vs : Vars). W words clauses k vs) same_vars) step

-- the frame of a body is what the definition goes by
frame_body : (frame : Frame) (nodes : List Plain) (entry : Vars) → types_in frame.types ≡ types_of (seen_routine frame.routine.now) → slots_of nodes frame.entry.items ≡ entry
    → body_at nodes frame ≡ spec.body_of (frames.program_of frame.core.now frame.program.now) (routine_of frame) entry
frame_body frame nodes entry types slots =
    ap (λ (ts : List Ty). record (body_at nodes frame) { types = ts }) (types ∙ sym (numbered_types (seen_routine frame.routine.now) frame.called.preconditions))
    ∙ ap (λ (vs : Vars). spec.body_of (frames.program_of frame.core.now frame.program.now) (routine_of frame) vs) slots

-- the body of a function or method
abbrev pub flow_of : Frame → Vars → Spot → ℕ → Flow
flow_of frame entry p n = exec_all (spec.body_of (frames.program_of frame.core.now frame.program.now) (routine_of frame) entry) [] (routine_of frame).body p n

-- what is known behind the requires clauses
behind_clauses : (b d : Walk) (h : Here) (start : Spot) (hyps : List Term) → Kept b.maker.terms d.maker.terms → AreSlots b.maker.terms h.vars.items → spot_of b h ≡ start → hyps_of d ≡ hyps → spot_of d h ≡ with_hyps hyps start
behind_clauses b d h start hyps kept slots is same =
    ap (λ (hs : List Term). spot hs (slots_of d.maker.terms h.vars.items) h.set.items) same
    ∙ ap (λ (vs : Vars). spot hyps vs h.set.items) (slots_kept b.maker.terms d.maker.terms kept h.vars.items slots)
    ∙ ap (λ (q : Spot). with_hyps hyps q) is

pub body_owes : (frame : Frame) (a z b c d f g : Walk) (h : Here) (end : Option Here) (vs : List (Option ℕ)) (words : List (List ℕ)) (clauses : List e.Expr) (block : List st.Stmt)
    → words ≡ frame.routine.now.variables → clauses ≡ frame.routine.now.preconditions → vs ≡ h.vars.items → frame.entry.items ≡ h.vars.items → block ≡ frame.routine.now.body
    → z.maker.terms ≡ a.maker.terms → z.owed ≡ a.owed → z.maker.node ≡ frame.called.preconditions
    → Renews z b h (spec.enter (setting frame.core.now frame.program.now) (routine_of frame)) → b.maker.node ≡ z.maker.node
    → Steps b c (assume_clauses (setting frame.core.now frame.program.now) words (numbered_list (seen_exprs clauses) b.maker.node) (slots_of b.maker.terms vs) (hyps_of b) b.maker.count)
    → d.maker.terms ≡ c.maker.terms → d.maker.count ≡ c.maker.count → d.hyps ≡ c.hyps → d.owed ≡ c.owed → d.maker.node ≡ frame.called.body
    → IsFrame d.maker.terms frame → types_in frame.types ≡ types_of (seen_routine frame.routine.now)
    → (went : Went d f end (exec_all (body_at d.maker.terms frame) [] (numbered_block (seen_block block) d.maker.node) (spot_of d h) d.maker.count))
    → Owes f g (spec.end_of (body_at f.maker.terms frame) (seen_output frame.routine.now.result) (exec_all (body_at d.maker.terms frame) [] (numbered_block (seen_block block) d.maker.node) (spot_of d h) d.maker.count).ends f.maker.count)
    → Owes a g (spec.body_conditions (frames.program_of frame.core.now frame.program.now) (routine_of frame))
body_owes frame a z b c d f g h end vs words clauses block same_words same_clauses same_vs same_entry same_block terms owed node renews b_node assumed d_terms d_count d_hyps d_owed d_node is_frame types went ends =
    let S = setting frame.core.now frame.program.now in
    let P = frames.program_of frame.core.now frame.program.now in
    let R = routine_of frame in
    let r = frame.routine.now in
    let start = spec.enter S R in
    let pre = numbered_list (seen_exprs r.preconditions) frame.called.preconditions in
    let vars : slots_of b.maker.terms h.vars.items ≡ start.spot.vars = ap (λ (q : Spot). q.vars) renews.spot.is in
    let A = λ (hs : List Term) (n : ℕ). assume_clauses S r.variables pre start.spot.vars hs n in
    let first = A start.spot.hyps start.count in
    let assumed' = assumed_as S words r.variables clauses r.preconditions b.maker.node frame.called.preconditions (slots_of b.maker.terms vs) start.spot.vars b c same_words same_clauses (b_node ∙ node)
    (ap (λ (l : List (Option ℕ)). slots_of b.maker.terms l) same_vs ∙ vars) assumed in
    let to_c = steps_as b c (A (hyps_of b) b.maker.count) first
    (ap (λ (hs : List Term). A hs b.maker.count) (ap (λ (q : Spot). q.hyps) renews.spot.is) ∙ ap (λ (n : ℕ). A start.spot.hyps n) renews.count) assumed' in
    let to_d = steps_noded b c d first to_c d_terms d_count d_hyps d_owed in
    let known = behind_clauses b d h start.spot first.hyps to_d.kept renews.spot.slots renews.spot.is to_d.hyps in
    let entry : slots_of d.maker.terms frame.entry.items ≡ start.spot.vars =
    ap (λ (l : List (Option ℕ)). slots_of d.maker.terms l) same_entry ∙ slots_kept b.maker.terms d.maker.terms to_d.kept h.vars.items renews.spot.slots ∙ vars in
    let body = frame_body frame d.maker.terms start.spot.vars types entry in
    let number : d.maker.node ≡ frame.called.preconditions + exprs_in_list (seen_exprs r.preconditions) + exprs_in_list (seen_exprs r.postconditions) =
    d_node ∙ is_frame.called.body_from ∙ ap (λ (j : ℕ). j + exprs_in_list (seen_exprs r.postconditions)) is_frame.called.ensures_from in
    let F = λ (y : Body Node) (l : List st.Stmt) (j : ℕ) (q : Spot) (n : ℕ). exec_all y [] (numbered_block (seen_block l) j) q n in
    let seen = F (body_at d.maker.terms frame) block d.maker.node (spot_of d h) d.maker.count in
    let flow = flow_of frame start.spot.vars (with_hyps first.hyps start.spot) first.count in
    let same : seen ≡ flow =
    ap (λ (y : Body Node). F y block d.maker.node (spot_of d h) d.maker.count) body
    ∙ ap (λ (l : List st.Stmt). F (spec.body_of P R start.spot.vars) l d.maker.node (spot_of d h) d.maker.count) same_block
    ∙ ap (λ (j : ℕ). F (spec.body_of P R start.spot.vars) r.body j (spot_of d h) d.maker.count) number
    ∙ ap (λ (q : Spot). exec_all (spec.body_of P R start.spot.vars) [] R.body q d.maker.count) known
    ∙ ap (λ (n : ℕ). exec_all (spec.body_of P R start.spot.vars) [] R.body (with_hyps first.hyps start.spot) n) to_d.count in
    let went' = subst (λ (x : Flow). Went d f end x) same went in
    let none = assumed_owed S r.variables pre start.spot.vars start.spot.hyps start.count in
    let before : owed_of d ≡ owed_of z =
    to_d.owed ∙ ap (λ (os : List Owed). owed_of b ++ os) none ∙ append_nil_of (owed_of b) ∙ renews.owed in
    let walked : Owes z f flow.owed = record { sound = went'.sound; kept = kept_then (kept_then renews.kept to_d.kept) went'.kept; owed = went'.owed ∙ ap (λ (os : List Owed). os ++ flow.owed) before } in
    let O = seen_output r.result in
    let last = owes_as f g (spec.end_of (body_at f.maker.terms frame) O seen.ends f.maker.count) (spec.end_of (spec.body_of P R start.spot.vars) O flow.ends flow.count)
    (ap (λ (y : Body Node). spec.end_of y O seen.ends f.maker.count) (body_kept d.maker.terms f.maker.terms went'.kept frame is_frame ∙ body)
    ∙ ap (λ (x : Flow). spec.end_of (spec.body_of P R start.spot.vars) O x.ends f.maker.count) same
    ∙ ap (λ (n : ℕ). spec.end_of (spec.body_of P R start.spot.vars) O flow.ends n) went'.count) ends in
    owes_from a z g (spec.body_conditions P R) terms owed (owes_then z f g flow.owed (spec.end_of (spec.body_of P R start.spot.vars) O flow.ends flow.count) walked last)
  where
    append_nil_of : (os : List Owed) → os ++ [] ≡ os
    append_nil_of [] = refl
    append_nil_of (o ∷ os) = ap (λ (l : List Owed). o ∷ l) (append_nil_of os)
