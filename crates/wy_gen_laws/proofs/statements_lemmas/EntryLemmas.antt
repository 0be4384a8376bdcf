-- The frame of a function or method at entry: its parameters have the first registers.
use Rattle.std.proofs.Common.{◌≡◌, ◌≢◌, ◌<◌, ◌≤◌, ◌⊎◌, inl, inr, ℕ, zero, suc, ◌-◌, List, [], ◌∷◌, ◌++◌, length, Bool, true, false, cond, Some, refl, sym, ◌∙◌, ap, subst, arith, length-append}
use Rattle.wy_lemmas.proofs.Choices.{either}
use Rattle.wy_value.specs.Datum.{Datum}
use Rattle.wy_core.specs.CoreTree.{Param}
use Rattle.wy_core.specs.formed.Offers.{Offers}
use Rattle.wy_core.specs.formed.Bound.{Scope, Has, with_params, BoundParams}
use Rattle.wy_code_spec.specs.wy_live.Sets.{Variables, has}
use Rattle.wy_code.specs.declared.routines.Routine.{Routine}
use Rattle.wy_code_spec.specs.compiled.Programs.{unused_params}
use Rattle.wy_vc_spec.specs.wy_sem.kept.Kept.{StoreProper, ListProper}
use Rattle.wy_vc_spec.specs.wy_sem.Expressions.{Store, slot, put}
use Rattle.wy_vc_spec.specs.wy_sem.TypeTests.{unset}
use Rattle.wy_vc_spec.specs.wy_sem.Evaluation.{bound}
use Rattle.wy_code_spec.specs.step.Step.{holding, empties, entry_registers, cleared}
use Rattle.wy_gen_laws.proofs.StoreLemmas.{put_other, put_says}
use Rattle.wy_gen_laws.proofs.InstructionLemmas.{IsNone, cleared_other, cleared_size}
use Rattle.wy_gen_laws.proofs.expressions_lemmas.KnownLemmas.{same_or_not}
use Rattle.wy_gen_laws.specs.statements.Led.{Kept}
use Rattle.wy_gen_laws.specs.statements.Routines.{InOrder}
use Rattle.wy_gen_laws.proofs.statements_lemmas.ValueLemmas.{proper_put}

-- ---- stores

unset_empty : (names : List (List ℕ)) (x : ℕ) (v : Datum) → slot (unset names) x ≡ Some v → ⊥
unset_empty [] x v e = absurd cc
unset_empty (n ∷ names) zero v e = absurd cc
unset_empty (n ∷ names) (suc x) v e = unset_empty names x v e

unset_proper : (names : List (List ℕ)) → StoreProper (unset names)
unset_proper [] = tt
unset_proper (n ∷ names) = (tt, unset_proper names)

bound_proper : (ps : List Param) (vs : List Datum) (s : Store) → ListProper vs → StoreProper s → StoreProper (bound ps vs s)
bound_proper [] vs s h p = p
bound_proper (q ∷ ps) [] s h p = p
bound_proper (q ∷ ps) (v ∷ vs) s h p = bound_proper ps vs (put s q.variable (Some v)) h.1 (proper_put s q.variable (Some v) h.0 p)

-- a variable that is set was set before, or is a parameter with its argument
abbrev IsArgument : ℕ → List Datum → ℕ → Datum → Type 0
IsArgument k vs x v = (k ≤ x) × (slot (holding vs) (x - k) ≡ Some v)

one_later : (k : ℕ) (u : Datum) (vs : List Datum) (x : ℕ) (v : Datum) → IsArgument (suc k) vs x v → IsArgument k (u ∷ vs) x v
one_later k u vs x v h = let l = h.0 in let e : x - k ≡ suc (x - suc k) = omega (arith, l) in (omega (arith, l), ap (λ (i : ℕ). slot (holding (u ∷ vs)) i) e ∙ h.1)

bound_says : (k : ℕ) (ps : List Param) (vs : List Datum) (s : Store) (x : ℕ) (v : Datum) → InOrder k ps → slot (bound ps vs s) x ≡ Some v → (slot s x ≡ Some v) ⊎ IsArgument k vs x v
bound_says k [] vs s x v o e = inl e
bound_says k (p ∷ ps) [] s x v o e = inl e
bound_says k (p ∷ ps) (u ∷ vs) s x v o e = by (bound_says (suc k) ps vs (put s p.variable (Some u)) x v o.1 e)
  where
    first : slot (put s p.variable (Some u)) x ≡ Some v → (x ≡ p.variable) ⊎ (x ≢ p.variable) → (slot s x ≡ Some v) ⊎ IsArgument k (u ∷ vs) x v
    first g (inl same) =
        let is : u ≡ v = put_says s p.variable u v (subst (λ (z : ℕ). slot (put s p.variable (Some u)) z ≡ Some v) same g) in
        let here : x ≡ k = same ∙ o.0 in
        let none : x - k ≡ 0 = omega (arith, here) in
        inr (omega (arith, here), ap (λ (i : ℕ). slot (holding (u ∷ vs)) i) none ∙ ap (λ (d : Datum). Some d) is)
    first g (inr other) = inl (sym (put_other s p.variable x (Some u) other) ∙ g)

    by : (slot (put s p.variable (Some u)) x ≡ Some v) ⊎ IsArgument (suc k) vs x v → (slot s x ≡ Some v) ⊎ IsArgument k (u ∷ vs) x v
    by (inl g) = first g (same_or_not x p.variable)
    by (inr h) = inr (one_later k u vs x v h)

slot_front : (s t : Store) (x : ℕ) (v : Datum) → slot s x ≡ Some v → slot (s ++ t) x ≡ Some v
slot_front [] t x v e = absurd cc
slot_front (u ∷ s) t zero v e = e
slot_front (u ∷ s) t (suc x) v e = slot_front s t x v e

-- the argument of a parameter stands in its register
pub entry_holds : (names : List (List ℕ)) (ps : List Param) (vs : List Datum) (t : Store) (x : ℕ) (v : Datum) → InOrder 0 ps → slot (bound ps vs (unset names)) x ≡ Some v → slot (holding vs ++ t) x ≡ Some v
entry_holds names ps vs t x v o e = either (λ g. absurd (unset_empty names x v g)) (λ h. let z : x ≡ x - 0 = omega arith in slot_front (holding vs) t x v (ap (λ (i : ℕ). slot (holding vs) i) z ∙ h.1)) (bound_says 0 ps vs (unset names) x v o e)

-- ---- registers

empties_size : (n : ℕ) → length (empties n) ≡ n
empties_size zero = refl
empties_size (suc n) = ap suc (empties_size n)

holding_size : (vs : List Datum) → length (holding vs) ≡ length vs
holding_size [] = refl
holding_size (v ∷ vs) = ap suc (holding_size vs)

pub entry_size : (r : Routine) (vs : List Datum) → length vs ≤ r.registers → length (entry_registers r vs) ≡ r.registers
entry_size r vs h =
    let a = length-append (holding vs) (empties (r.registers - length vs)) in
    let b = holding_size vs in
    let e = empties_size (r.registers - length vs) in
    omega (arith, a, b, e, h)

-- ---- parameters that no path uses

one_unused : (b : Bool) (x y : ℕ) (rest : List ℕ) (s : Variables) → has s y ≡ b → has s x ≡ true → IsNone x rest → IsNone x (cond b rest (y ∷ rest))
one_unused true x y rest s e h none = none
one_unused false x y rest s e h none = ((λ same. absurd (let k : has s y ≡ true = subst (λ (z : ℕ). has s z ≡ true) same h in cc)), none)

unused_none : (s : Variables) (ps : List Param) (x : ℕ) → has s x ≡ true → IsNone x (unused_params s ps)
unused_none s [] x h = tt
unused_none s (p ∷ ps) x h = one_unused (has s p.variable) x p.variable (unused_params s ps) s refl h (unused_none s ps x h)

-- the frame behind the release of the parameters that no path uses
pub entry_kept : (scope : Scope) (s : Variables) (r : Routine) (names : List (List ℕ)) (ps : List Param) (vs : List Datum) → InOrder 0 ps → length vs ≤ r.registers → ListProper vs
    → Kept scope s r.registers (bound ps vs (unset names)) (cleared (entry_registers r vs) (unused_params s ps))
entry_kept scope s r names ps vs o room proper = record {
  live = record { holds = λ x v i a e. cleared_other (entry_registers r vs) (unused_params s ps) x (unused_none s ps x a) ∙ entry_holds names ps vs (empties (r.registers - length vs)) x v o e };
  size = cleared_size (entry_registers r vs) (unused_params s ps) ∙ entry_size r vs room;
  proper = bound_proper ps vs (unset names) proper (unset_proper names);
}

-- ---- the scope at entry

pub params_below : (o : Offers) (n : ℕ) (vs : Scope) (ps : List Param) → BoundParams o n vs ps → ((x : ℕ) → Has vs x → x < n) → (x : ℕ) → Has (with_params vs ps) x → x < n
params_below o n vs [] b f x h = f x h
params_below o n vs (p ∷ ps) b f x h = params_below o n (p.variable ∷ vs) ps b.2 (λ y i. either (λ e. let l = b.1.0 in let k : y < n = omega (arith, e, l) in k) (λ g. f y g) i) x h
