-- The terms of variables, by number.
use Rattle.std.proofs.Common.{◌≡◌, ◌<◌, ℕ, zero, suc, List, [], ◌∷◌, length, Option, Some, None, refl, ◌∙◌, ap, arith}
use Rattle.wy_term.specs.Term.{Term}
use Rattle.wy_term.specs.Nodes.{Plain, tree_at}
use Rattle.wy_vc_terms.specs.wy_vc_spec.Variables.{Vars, put}
use Rattle.wy_vc_operations.specs.Growing.{Kept, IsSlotBelow, AreSlotsAt}
use Rattle.wy_vc_exprs.specs.Slots.{slot_of, slots_of, AreSlots}

slot_kept : (old new : List Plain) → Kept old new → (v : Option ℕ) → IsSlotBelow (length old) v → slot_of new v ≡ slot_of old v
slot_kept old new kept None is = refl
slot_kept old new kept (Some k) is = ap Some (kept.trees k is)

slot_on : (old new : List Plain) → Kept old new → (v : Option ℕ) → IsSlotBelow (length old) v → IsSlotBelow (length new) v
slot_on old new kept None is = tt
slot_on old new kept (Some k) is = omega (arith, kept.grows, is)

-- they stay as they are while the list of terms grows
pub slots_kept : (old new : List Plain) → Kept old new → (vs : List (Option ℕ)) → AreSlots old vs → slots_of new vs ≡ slots_of old vs
slots_kept old new kept [] are = refl
slots_kept old new kept (v ∷ vs) are =
    ap (λ (s : Option Term). s ∷ slots_of new vs) (slot_kept old new kept v are.0) ∙ ap (λ (ss : Vars). slot_of old v ∷ ss) (slots_kept old new kept vs are.1)

pub slots_on : (old new : List Plain) → Kept old new → (vs : List (Option ℕ)) → AreSlots old vs → AreSlots new vs
slots_on old new kept [] are = tt
slots_on old new kept (v ∷ vs) are = (slot_on old new kept v are.0, slots_on old new kept vs are.1)

-- a variable stands for a term from now on
pub slots_put : (nodes : List Plain) (vs : List (Option ℕ)) (x k : ℕ) → slots_of nodes (put vs x k) ≡ put (slots_of nodes vs) x (tree_at nodes k)
slots_put nodes [] zero k = refl
slots_put nodes [] (suc x) k = ap (λ (ss : Vars). None ∷ ss) (slots_put nodes [] x k)
slots_put nodes (v ∷ vs) zero k = refl
slots_put nodes (v ∷ vs) (suc x) k = ap (λ (ss : Vars). slot_of nodes v ∷ ss) (slots_put nodes vs x k)

pub are_put : (nodes : List Plain) (vs : List (Option ℕ)) (x k : ℕ) → AreSlots nodes vs → k < length nodes → AreSlots nodes (put vs x k)
are_put nodes [] zero k are lt = (lt, tt)
are_put nodes [] (suc x) k are lt = (tt, are_put nodes [] x k are lt)
are_put nodes (v ∷ vs) zero k are lt = (lt, are.1)
are_put nodes (v ∷ vs) (suc x) k are lt = (are.0, are_put nodes vs x k are.1 lt)

pub slots_itself : {nodes : List Plain} {vs : List (Option ℕ)} → AreSlots nodes vs → AreSlotsAt nodes vs (slots_of nodes vs)
slots_itself are = record { within = are; are = refl }
