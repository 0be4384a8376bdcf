-- What a `return` owes.
use Rattle.std.proofs.Common.{Vec, ◌≡◌, ◌<◌, ◌+◌, ℕ, List, ◌++◌, map, length, take, Option, Some, None, option_map, refl, ◌∙◌, ap, subst, arith}
use Rattle.std.specs.declared.alloc.Global.{Global}
use Rattle.wy_core.specs.CoreTree as tree
use Rattle.wy_core.specs.CoreSeen.{seen_output, seen_exprs}
use Rattle.wy_core.specs.declared.declarations.Output.{Output}
use Rattle.wy_term.specs.declared.cond.CondKind.TheVariants as kind
use Rattle.wy_term.specs.Term.{Term}
use Rattle.wy_term.specs.Nodes.{Plain, tree_at}
use Rattle.wy_vc_exprs.specs.wy_vc_spec.Clauses.{Passed, owe_clauses}
use Rattle.wy_vc_exprs.specs.wy_vc_spec.Numbered.{numbered_list}
use Rattle.wy_vc_exprs.specs.wy_vc_spec.Owed.{Owed}
use Rattle.wy_vc_exprs.specs.wy_vc_spec.Sizes.{exprs_in_list}
use Rattle.wy_vc_exprs.specs.wy_vc_spec.Statements as spec
use Rattle.wy_vc_exprs.specs.wy_vc_spec.Variables.{Vars, put_if}
use Rattle.wy_vc_exprs.specs.wy_vc_operations.Growing.{Kept}
use Rattle.wy_vc_exprs.specs.Slots.{AreSlots, slots_of}
use Rattle.wy_vc_exprs.specs.State.{Steps, hyps_of, seen_goal}
use Rattle.wy_vc_exprs.specs.declared.walk.Walk.{Walk}
use Rattle.wy_vc_exprs.specs.declared.goal.Goal.{Goal}
use Rattle.wy_vc_exprs.proofs.SlotLemmas.{slots_put, are_put, slots_kept}
use Rattle.wy_vc_exprs.proofs.StateLemmas.{steps_on, steps_noded}
use Rattle.wy_vc_body.specs.declared.frame.Frame.{Frame}
use Rattle.wy_vc_body.specs.Frames.{IsFrame, body_at}
use Rattle.wy_vc_body.specs.Results.{IsGiven, with_number}

-- ---- from where another expression comes next

pub steps_from : (z a b : Walk) (p : Passed) → z.maker.terms ≡ a.maker.terms → z.hyps ≡ a.hyps → z.owed ≡ a.owed → Steps z b p → Steps a b p
steps_from z a b p terms hyps owed s = record {
  sound = s.sound;
  kept = subst (λ (ns : List Plain). Kept ns b.maker.terms) terms s.kept;
  count = s.count;
  hyps = s.hyps;
  owed = s.owed ∙ ap (λ (os : List Owed). os ++ p.owed) (ap (λ (ns : List Plain). map (seen_goal ns) z.owed.items) terms ∙ ap (λ (os : Vec Goal Global). map (seen_goal a.maker.terms) os.items) owed);
  longer = subst (λ (hs : Vec ℕ Global). take (length hs.items) b.hyps.items ≡ hs.items) hyps s.longer;
}

-- ---- variables at a return

put_if_seen : (nodes : List Plain) (vs : List (Option ℕ)) (x : Option ℕ) (k : ℕ) → slots_of nodes (put_if vs x k) ≡ put_if (slots_of nodes vs) x (tree_at nodes k)
put_if_seen nodes vs None k = refl
put_if_seen nodes vs (Some x) k = slots_put nodes vs x k

put_if_are : (nodes : List Plain) (vs : List (Option ℕ)) (x : Option ℕ) (k : ℕ) → AreSlots nodes vs → k < length nodes → AreSlots nodes (put_if vs x k)
put_if_are nodes vs None k are lt = are
put_if_are nodes vs (Some x) k are lt = are_put nodes vs x k are lt

pub with_seen : (nodes : List Plain) (o : Option tree.Output) (g : Option ℕ) (vs : List (Option ℕ)) → slots_of nodes (with_number o g vs) ≡ spec.with_result o (option_map (tree_at nodes) g) (slots_of nodes vs)
with_seen nodes None g vs = refl
with_seen nodes (Some out) None vs = refl
with_seen nodes (Some out) (Some k) vs = put_if_seen nodes vs out.variable k

pub with_are : (nodes : List Plain) (o : Option tree.Output) (g : Option ℕ) (vs : List (Option ℕ)) → AreSlots nodes vs → IsGiven nodes g → AreSlots nodes (with_number o g vs)
with_are nodes None g vs are is = are
with_are nodes (Some out) None vs are is = are
with_are nodes (Some out) (Some k) vs are is = put_if_are nodes vs out.variable k are is

pub given_on : (old new : List Plain) (g : Option ℕ) → Kept old new → IsGiven old g → IsGiven new g
given_on old new None k is = tt
given_on old new (Some j) k is = omega (arith, k.grows, is)

given_kept : (old new : List Plain) (g : Option ℕ) → Kept old new → IsGiven old g → option_map (tree_at new) g ≡ option_map (tree_at old) g
given_kept old new None k is = refl
given_kept old new (Some j) k is = ap (λ (t : Term). Some t) (k.trees j is)

-- ---- the ensures clauses

-- how many expressions the requires clauses have
abbrev first_exprs : Frame → ℕ
first_exprs frame = exprs_in_list (seen_exprs frame.routine.now.preconditions)

pub left_by : (frame : Frame) (at : ℕ) (g : Option ℕ) (a b z c d : Walk) (vars : List (Option ℕ)) → IsFrame a.maker.terms frame → IsGiven a.maker.terms g
    → Steps a b (spec.owe_result (body_at a.maker.terms frame) at (seen_output frame.routine.now.result) (option_map (tree_at a.maker.terms) g) (hyps_of a) a.maker.count)
    → vars ≡ with_number (seen_output frame.routine.now.result) g frame.entry.items
    → z.maker.terms ≡ b.maker.terms → z.maker.count ≡ b.maker.count → z.hyps ≡ b.hyps → z.owed ≡ b.owed
    → Steps z c (owe_clauses (body_at a.maker.terms frame).program.setting kind.Ensures at frame.routine.now.variables (numbered_list (seen_exprs frame.routine.now.postconditions) frame.called.postconditions) (slots_of z.maker.terms vars) (hyps_of z) z.maker.count)
    → d.maker.terms ≡ c.maker.terms → d.maker.count ≡ c.maker.count → d.hyps ≡ c.hyps → d.owed ≡ c.owed
    → Steps a d (spec.leave (body_at a.maker.terms frame) at (option_map (tree_at a.maker.terms) g) (hyps_of a) a.maker.count)
left_by frame at g a b z c d vars is_frame is_given first vars_is terms_z count_z hyps_z owed_z second terms_d count_d hyps_d owed_d =
    let B = body_at a.maker.terms frame in
    let G = option_map (tree_at a.maker.terms) g in
    let V = spec.with_result (seen_output frame.routine.now.result) G B.entry in
    let F = λ (k : ℕ) (vs : Vars) (hs : List Term) (n : ℕ). owe_clauses B.program.setting kind.Ensures at frame.routine.now.variables (numbered_list (seen_exprs frame.routine.now.postconditions) k) vs hs n in
    let slots : slots_of z.maker.terms vars ≡ V =
    ap (λ (ns : List Plain). slots_of ns vars) terms_z ∙ ap (λ (vs : List (Option ℕ)). slots_of b.maker.terms vs) vars_is
    ∙ with_seen b.maker.terms (seen_output frame.routine.now.result) g frame.entry.items
    ∙ ap (λ (x : Option Term). spec.with_result (seen_output frame.routine.now.result) x (slots_of b.maker.terms frame.entry.items)) (given_kept a.maker.terms b.maker.terms g first.kept is_given)
    ∙ ap (λ (vs : Vars). spec.with_result (seen_output frame.routine.now.result) G vs) (slots_kept a.maker.terms b.maker.terms first.kept frame.entry.items is_frame.entry) in
    let hyps : hyps_of z ≡ hyps_of b = ap (λ (ns : List Plain). map (tree_at ns) z.hyps.items) terms_z ∙ ap (λ (hs : Vec ℕ Global). map (tree_at b.maker.terms) hs.items) hyps_z in
    let same : F frame.called.postconditions (slots_of z.maker.terms vars) (hyps_of z) z.maker.count ≡ F (frame.called.preconditions + first_exprs frame) V (hyps_of b) b.maker.count =
    ap (λ (k : ℕ). F k (slots_of z.maker.terms vars) (hyps_of z) z.maker.count) is_frame.called.ensures_from
    ∙ ap (λ (vs : Vars). F (frame.called.preconditions + first_exprs frame) vs (hyps_of z) z.maker.count) slots
    ∙ ap (λ (hs : List Term). F (frame.called.preconditions + first_exprs frame) V hs z.maker.count) hyps
    ∙ ap (λ (n : ℕ). F (frame.called.preconditions + first_exprs frame) V (hyps_of b) n) count_z in
    let second' = subst (λ (p : Passed). Steps b c p) same (steps_from z b c (F frame.called.postconditions (slots_of z.maker.terms vars) (hyps_of z) z.maker.count) terms_z hyps_z owed_z second) in
    let all = steps_on (λ hs n. F (frame.called.preconditions + first_exprs frame) V hs n) a b c (spec.owe_result B at (seen_output frame.routine.now.result) G (hyps_of a) a.maker.count) first second' in
    steps_noded a c d (spec.leave B at G (hyps_of a) a.maker.count) all terms_d count_d hyps_d owed_d
