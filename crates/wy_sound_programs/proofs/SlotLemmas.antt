-- Types of variables by their numbers, marks, and types under changes.
use Rattle.std.proofs.Common.{◌≡◌, ◌⊎◌, inl, inr, ℕ, zero, suc, List, [], ◌∷◌, Bool, true, false, cond, ◌==◌, eqb-true, Option, Some, None, refl, sym, ap, ◌∙◌, subst}
use Rattle.wy_core.specs.Types.{Ty}
use Rattle.wy_sound_statements.specs.wy_flow_spec.environment.Slots.{slot_at, put_slot}
use Rattle.wy_sound_statements.specs.wy_flow_spec.environment.Variables.{Environment, Changes, void_type, or_void, with_change, latest, type_of, given, changed}
use Rattle.wy_vc_spec.specs.Spots.{is_set, mark}
use Rattle.wy_lemmas.proofs.Choices.{apart_of}
use Rattle.wy_sound_programs.specs.Typed.{Has}

-- ---- numbers

pub same_or_apart : (x y : ℕ) → (x ≡ y) ⊎ ((x == y) ≡ false)
same_or_apart x y = by (x == y) refl where
  by : (b : Bool) → (x == y) ≡ b → (x ≡ y) ⊎ ((x == y) ≡ false)
  by true q = inl (eqb-true x y q)
  by false q = inr q

pub apart_back : (x y : ℕ) → (x == y) ≡ false → y ≡ x → ⊥
apart_back x y q e = apart_of x y q (sym e)

-- ---- slots

pub no_slot : {X : Type 0} (t : Ty) → ◌≡◌ {A = Option Ty} None (Some t) → X
no_slot t e = absurd cc

pub same_slot : (t u : Ty) → ◌≡◌ {A = Option Ty} (Some t) (Some u) → t ≡ u
same_slot t u e = cc

pub slot_put : (slots : List (Option Ty)) (x : ℕ) (t : Ty) → slot_at (put_slot slots x t) x ≡ Some t
slot_put [] zero t = refl
slot_put [] (suc x) t = slot_put [] x t
slot_put (s ∷ slots) zero t = refl
slot_put (s ∷ slots) (suc x) t = slot_put slots x t

pub slot_other : (slots : List (Option Ty)) (x : ℕ) (t : Ty) (y : ℕ) → (x ≡ y → ⊥) → slot_at (put_slot slots x t) y ≡ slot_at slots y
slot_other [] zero t zero h = absurd (h refl)
slot_other [] zero t (suc y) h = refl
slot_other [] (suc x) t zero h = refl
slot_other [] (suc x) t (suc y) h = slot_other [] x t y (λ e. h (ap suc e))
slot_other (s ∷ slots) zero t zero h = absurd (h refl)
slot_other (s ∷ slots) zero t (suc y) h = refl
slot_other (s ∷ slots) (suc x) t zero h = refl
slot_other (s ∷ slots) (suc x) t (suc y) h = slot_other slots x t y (λ e. h (ap suc e))

-- ---- marks

pub mark_same : (bs : List Bool) (x : ℕ) (b : Bool) → is_set (mark bs x b) x ≡ b
mark_same [] zero b = refl
mark_same [] (suc x) b = mark_same [] x b
mark_same (c ∷ bs) zero b = refl
mark_same (c ∷ bs) (suc x) b = mark_same bs x b

pub mark_other : (bs : List Bool) (x : ℕ) (b : Bool) (y : ℕ) → (x ≡ y → ⊥) → is_set (mark bs x b) y ≡ is_set bs y
mark_other [] zero b zero h = absurd (h refl)
mark_other [] zero b (suc y) h = refl
mark_other [] (suc x) b zero h = refl
mark_other [] (suc x) b (suc y) h = mark_other [] x b y (λ e. h (ap suc e))
mark_other (c ∷ bs) zero b zero h = absurd (h refl)
mark_other (c ∷ bs) zero b (suc y) h = refl
mark_other (c ∷ bs) (suc x) b zero h = refl
mark_other (c ∷ bs) (suc x) b (suc y) h = mark_other bs x b y (λ e. h (ap suc e))

-- ---- environments

-- one more variable has a type
abbrev pub put_type : Environment → ℕ → Ty → Environment
put_type env x t = record env { types = put_slot env.types x t }

pub given_puts : (env : Environment) (x : ℕ) (t : Ty) → env.reached ≡ true → given env x t ≡ put_type env x t
given_puts env x t e = ap (λ (b : Bool). cond b (put_type env x t) env) e

pub given_stays : (env : Environment) (x : ℕ) (t : Ty) → env.reached ≡ false → given env x t ≡ env
given_stays env x t e = ap (λ (b : Bool). cond b (put_type env x t) env) e

pub given_reached : (env : Environment) (x : ℕ) (t : Ty) → env.reached ≡ true → (given env x t).reached ≡ true
given_reached env x t e = ap (λ (v : Environment). v.reached) (given_puts env x t e) ∙ e

pub given_slot : (env : Environment) (x : ℕ) (t : Ty) (y : ℕ) → env.reached ≡ true → slot_at (given env x t).types y ≡ slot_at (put_slot env.types x t) y
given_slot env x t y e = ap (λ (v : Environment). slot_at v.types y) (given_puts env x t e)

pub given_same : (env : Environment) (x : ℕ) (t : Ty) → env.reached ≡ true → slot_at (given env x t).types x ≡ Some t
given_same env x t e = given_slot env x t x e ∙ slot_put env.types x t

pub given_other : (env : Environment) (x : ℕ) (t : Ty) (y : ℕ) → env.reached ≡ true → (x ≡ y → ⊥) → slot_at (given env x t).types y ≡ slot_at env.types y
given_other env x t y e h = given_slot env x t y e ∙ slot_other env.types x t y h

pub given_has : (env : Environment) (x : ℕ) (t : Ty) (y : ℕ) → env.reached ≡ true → Has env y → Has (given env x t) y
given_has env x t y e h = by (same_or_apart x y) where
  by : (x ≡ y) ⊎ ((x == y) ≡ false) → Has (given env x t) y
  by (inl q) = (t, subst (λ (z : ℕ). slot_at (given env x t).types z ≡ Some t) q (given_same env x t e))
  by (inr q) = (h.0, given_other env x t y e (apart_of x y q) ∙ h.1)

-- the type of a variable that has one
pub type_here : (env : Environment) (x : ℕ) (t : Ty) → env.reached ≡ true → slot_at env.types x ≡ Some t → type_of env [] x ≡ t
type_here env x t e h = ap (λ (b : Bool). cond b (or_void (slot_at env.types x)) void_type) e ∙ ap or_void h

-- two points with the same type for the variable
pub type_same : (a b : Environment) (x : ℕ) → a.reached ≡ true → b.reached ≡ true → slot_at b.types x ≡ slot_at a.types x → type_of b [] x ≡ type_of a [] x
type_same a b x e f h =
    ap (λ (c : Bool). cond c (or_void (slot_at b.types x)) void_type) f ∙ (ap or_void h ∙ sym (ap (λ (c : Bool). cond c (or_void (slot_at a.types x)) void_type) e))

-- ---- changes

pub changed_reached : (cs : Changes) (env : Environment) → env.reached ≡ true → (changed env cs).reached ≡ true
changed_reached [] env e = e
changed_reached (c ∷ cs) env e = changed_reached cs (given env c.0 c.1) (given_reached env c.0 c.1 e)

pub changed_stays : (cs : Changes) (env : Environment) → env.reached ≡ false → changed env cs ≡ env
changed_stays [] env e = refl
changed_stays (c ∷ cs) env e = ap (λ (v : Environment). changed v cs) (given_stays env c.0 c.1 e) ∙ changed_stays cs env e

pub changed_has : (cs : Changes) (env : Environment) (x : ℕ) → env.reached ≡ true → Has env x → Has (changed env cs) x
changed_has [] env x e h = h
changed_has (c ∷ cs) env x e h = changed_has cs (given env c.0 c.1) x (given_reached env c.0 c.1 e) (given_has env c.0 c.1 x e h)

given_void : (env : Environment) (c : ℕ × Ty) (x : ℕ) → env.reached ≡ true → or_void (slot_at (given env c.0 c.1).types x) ≡ with_change (or_void (slot_at env.types x)) c x
given_void env c x e = by (c.0 == x) refl where
  by : (b : Bool) → (c.0 == x) ≡ b → or_void (slot_at (given env c.0 c.1).types x) ≡ cond b c.1 (or_void (slot_at env.types x))
  by true q = ap or_void (subst (λ (z : ℕ). slot_at (given env c.0 c.1).types z ≡ Some c.1) (eqb-true c.0 x q) (given_same env c.0 c.1 e))
  by false q = ap or_void (given_other env c.0 c.1 x e (apart_of c.0 x q))

-- the changes are made, or stand behind the environment
pub changed_types : (cs : Changes) (env : Environment) (x : ℕ) → env.reached ≡ true → type_of (changed env cs) [] x ≡ type_of env cs x
changed_types [] env x e = refl
changed_types (c ∷ cs) env x e =
    let next = given env c.0 c.1 in
    changed_types cs next x (given_reached env c.0 c.1 e)
    ∙ (ap (λ (b : Bool). cond b (latest cs x (or_void (slot_at next.types x))) void_type) (given_reached env c.0 c.1 e)
    ∙ (ap (latest cs x) (given_void env c x e) ∙ sym (ap (λ (b : Bool). cond b (latest cs x (with_change (or_void (slot_at env.types x)) c x)) void_type) e)))
