-- Values that come into variables.
use Rattle.std.proofs.Common.{◌≡◌, ◌<◌, ℕ, List, [], ◌++◌, Bool, true, length, Option, Some, sym, ◌∙◌, ap, subst}
use Rattle.std.proofs.lemmas.List.{append-nil}
use Rattle.wy_core.specs.Types.{Ty}
use Rattle.wy_term.specs.Term.{Term}
use Rattle.wy_term.specs.Nodes.{Plain, tree_at}
use Rattle.wy_vc_exprs.specs.wy_vc_spec.Clauses.{passed, owe_member}
use Rattle.wy_vc_exprs.specs.wy_vc_spec.Calls.{Walked}
use Rattle.wy_vc_exprs.specs.wy_vc_spec.Large.{named}
use Rattle.wy_vc_exprs.specs.wy_vc_spec.Numbered.{Node}
use Rattle.wy_vc_exprs.specs.wy_vc_spec.Owed.{Owed}
use Rattle.wy_vc_exprs.specs.wy_vc_spec.Spots.{Spot, spot, mark}
use Rattle.wy_vc_exprs.specs.wy_vc_spec.Statements.{Body, given, words}
use Rattle.wy_vc_exprs.specs.wy_vc_spec.Variables.{Vars, put}
use Rattle.wy_vc_exprs.specs.wy_vc_operations.Growing.{Kept}
use Rattle.wy_vc_body.specs.declared.here.Here.{Here}
use Rattle.wy_vc_exprs.specs.Slots.{AreSlots, slots_of}
use Rattle.wy_vc_exprs.specs.State.{Steps, Walks, hyps_of, passed_by}
use Rattle.wy_vc_exprs.specs.declared.walk.Walk.{Walk}
use Rattle.wy_vc_exprs.proofs.SlotLemmas.{slots_kept, slots_on, slots_put, are_put}
use Rattle.wy_vc_exprs.proofs.StateLemmas.{steps_on, steps_as}
use Rattle.wy_vc_body.specs.Paths.{IsSpot, spot_of}
use Rattle.wy_vc_body.specs.Named.{named_walk}
use Rattle.wy_vc_body.specs.Going.{Went}
use Rattle.wy_vc_body.proofs.FrameLemmas.{went_goes, went_on}

-- the variable has the term and a value
pub assigned_spot : (w : Walk) (h h' : Here) (old : List Plain) (x r : ℕ) (t : Term) (hyps : List Term) → Kept old w.maker.terms → AreSlots old h.vars.items → r < length w.maker.terms → tree_at w.maker.terms r ≡ t → hyps_of w ≡ hyps
    → h'.vars.items ≡ put h.vars.items x r → h'.set.items ≡ mark h.set.items x true
    → IsSpot w h' (spot hyps (put (slots_of old h.vars.items) x t) (mark h.set.items x true))
assigned_spot w h h' old x r t hyps kept slots within is assumed vars set =
    let nodes = w.maker.terms in
    record {
      slots = subst (λ (vs : List (Option ℕ)). AreSlots nodes vs) (sym vars) (are_put nodes h.vars.items x r (slots_on old nodes kept h.vars.items slots) within);
      is =
          ap (λ (hs : List Term). spot hs (slots_of nodes h'.vars.items) h'.set.items) assumed
          ∙ ap (λ (vs : Vars). spot hyps vs h'.set.items)
          (ap (λ (vs : List (Option ℕ)). slots_of nodes vs) vars ∙ slots_put nodes h.vars.items x r
          ∙ ap (λ (vs : Vars). put vs x (tree_at nodes r)) (slots_kept old nodes kept h.vars.items slots) ∙ ap (λ (u : Term). put (slots_of old h.vars.items) x u) is)
          ∙ ap (λ (bs : List Bool). spot hyps (put (slots_of old h.vars.items) x t) bs) set;
    }

-- a value comes into a variable
pub given_went : (body : Body Node) (at : ℕ) (t : Ty) (x value r : ℕ) (a b c : Walk) (h h' : Here) → AreSlots a.maker.terms h.vars.items → value < length a.maker.terms
    → Steps a b (owe_member body.program.setting at t (tree_at a.maker.terms value) (hyps_of a) a.maker.count)
    → Walks b c r (named_walk (named (words body) x (tree_at b.maker.terms value) (hyps_of b) b.maker.count))
    → h'.vars.items ≡ put h.vars.items x r → h'.set.items ≡ mark h.set.items x true
    → Went a c (Some h') (given body at t x (tree_at a.maker.terms value) [] (spot_of a h) (hyps_of a) a.maker.count)
given_went body at t x value r a b c h h' slots within first second vars set =
    let V = tree_at a.maker.terms value in
    let M = owe_member body.program.setting at t V (hyps_of a) a.maker.count in
    let N = λ (hs : List Term) (n : ℕ). named (words body) x V hs n in
    let second' = subst (λ (u : Term). Walks b c r (named_walk (named (words body) x u (hyps_of b) b.maker.count))) (first.kept.trees value within) second in
    let all = steps_on (λ hs n. passed_by (named_walk (N hs n))) a b c M first second'.steps in
    let all' = steps_as a c (passed (N M.hyps M.count).count (N M.hyps M.count).hyps (M.owed ++ [])) (passed (N M.hyps M.count).count (N M.hyps M.count).hyps M.owed)
    (ap (λ (os : List Owed). passed (N M.hyps M.count).count (N M.hyps M.count).hyps os) (append-nil M.owed)) all in
    let term : tree_at c.maker.terms r ≡ (N M.hyps M.count).term = second'.is.is ∙ ap (λ (hs : List Term). (N hs b.maker.count).term) first.hyps ∙ ap (λ (n : ℕ). (N M.hyps n).term) first.count in
    went_goes a c (passed (N M.hyps M.count).count (N M.hyps M.count).hyps M.owed) h'
    (spot (N M.hyps M.count).hyps (put (slots_of a.maker.terms h.vars.items) x (N M.hyps M.count).term) (mark h.set.items x true))
    all' (assigned_spot c h h' a.maker.terms x r (N M.hyps M.count).term (N M.hyps M.count).hyps all.kept slots second'.is.within term all'.hyps vars set)

-- a value that was walked comes into a variable
pub given_walked : (body : Body Node) (at : ℕ) (t : Ty) (x r : ℕ) (w : Walked) (a b c : Walk) (h h' : Here) → AreSlots a.maker.terms h.vars.items
    → Walks a b r w
    → Went b c (Some h') (given body at t x (tree_at b.maker.terms r) [] (spot_of b h) (hyps_of b) b.maker.count)
    → Went a c (Some h') (given body at t x w.term w.owed (spot_of a h) w.hyps w.count)
given_walked body at t x r w a b c h h' slots first second =
    let P = λ (vs : Vars). spot (hyps_of a) vs h.set.items in
    let F = λ (v : Term) (p : Spot) (hs : List Term) (n : ℕ). given body at t x v [] p hs n in
    went_on a b c (passed_by w) (Some h') (F (tree_at b.maker.terms r) (spot_of b h) (hyps_of b) b.maker.count) (F w.term (spot_of a h) w.hyps w.count) first.steps second
    (ap (λ (v : Term). F v (spot_of b h) (hyps_of b) b.maker.count) first.is.is
    ∙ ap (λ (vs : Vars). F w.term (spot (hyps_of a) vs h.set.items) (hyps_of b) b.maker.count) (slots_kept a.maker.terms b.maker.terms first.steps.kept h.vars.items slots)
    ∙ ap (λ (hs : List Term). F w.term (spot_of a h) hs b.maker.count) first.steps.hyps
    ∙ ap (λ (n : ℕ). F w.term (spot_of a h) w.hyps n) first.steps.count)
