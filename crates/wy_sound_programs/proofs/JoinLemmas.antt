-- Types of variables where paths meet, and behind loops.
use Rattle.std.proofs.Common.{◌≡◌, ◌⊎◌, inl, inr, ℕ, zero, suc, List, [], ◌∷◌, ◌++◌, Bool, true, false, cond, Option, Some, None, refl, sym, ap, ◌∙◌, subst}
use Rattle.wy_lemmas.proofs.Choices.{true_false as not_both}
use Rattle.wy_lemmas.proofs.Lists.{none_behind as nil_right}
use Rattle.wy_value.specs.Datum.{Datum}
use Rattle.wy_core.specs.Types.{Ty}
use Rattle.wy_types.specs.Names.{Declared, Up}
use Rattle.wy_types.specs.Recursion.{RecurThroughParts}
use Rattle.wy_sound_statements.specs.wy_flow_spec.environment.Slots.{slot_at}
use Rattle.wy_sound_statements.specs.wy_flow_spec.environment.Variables.{Environment}
use Rattle.wy_sound_statements.specs.wy_flow_spec.typing.Outcomes.{Gives, Give}
use Rattle.wy_sound_statements.specs.wy_flow_spec.typing.Joins.{JoinedType, JoinedSlot, JoinedSlots, JoinedTypes, Joined}
use Rattle.wy_sound_statements.specs.wy_flow_spec.typing.Loops.{Exit}
use Rattle.wy_sound_statements.specs.wy_sound_walks.joins.Joins.{IsOne}
use Rattle.wy_sound_statements.proofs.wy_sound_kinds_proofs.TypeLemmas.{then_gives, given_is, append_assoc, joined_in}
use Rattle.wy_sound_programs.specs.Typed.{Has}
use Rattle.wy_sound_programs.proofs.SlotLemmas.{no_slot, same_slot}

-- a path gets to the point, and the datum is in the type that the variable has there
pub record In (names : List Declared) (env : Environment) (x : ℕ) (d : Datum) : Type 0 where
  pub reached : env.reached ≡ true
  pub ty : Ty
  pub slot : slot_at env.types x ≡ Some ty
  pub inside : Up names d ty ≡ true

-- where a path gets to the point, the variable has a type there
abbrev pub HasIf : Environment → ℕ → Type 0
HasIf env x = env.reached ≡ true → Has env x

-- ---- the variables one by one

abbrev JoinedAll : List Declared → ℕ → List (Option Ty) → List (Option Ty) → List (Option Ty) → Type 0
JoinedAll names at [] bs cs = Unit {0}
JoinedAll names at (a ∷ slots) [] cs = Unit {0}
JoinedAll names at (a ∷ slots) (b ∷ bs) [] = ⊥
JoinedAll names at (a ∷ slots) (b ∷ bs) (c ∷ cs) = JoinedSlot names at a b (Gives c) × JoinedAll names at slots bs cs

joined_slots : (names : List Declared) (at : ℕ) (made slots bs out : List (Option Ty)) → JoinedSlots names at made slots bs (Gives out) → (rest : List (Option Ty)) × (out ≡ made ++ rest) × JoinedAll names at slots bs rest
joined_slots names at made [] bs out h = ([], given_is out made h ∙ sym (nil_right made), tt)
joined_slots names at made (a ∷ slots) [] out h = ([], given_is out made h ∙ sym (nil_right made), tt)
joined_slots names at made (a ∷ slots) (b ∷ bs) out h =
    let t = then_gives _ _ out h in
    let r = joined_slots names at (made ++ t.0 ∷ []) slots bs out t.2 in
    (t.0 ∷ r.0, r.1 ∙ append_assoc made (t.0 ∷ []) r.0, (t.1, r.2))

-- what a variable has that has a type on both paths
abbrev JoinedAt : List Declared → ℕ → Ty → Ty → Option Ty → Type 0
JoinedAt names at ta tb o = (t : Ty) × (o ≡ Some t) × JoinedType names at ta tb (Gives t)

slot_in : (names : List Declared) (at : ℕ) (a b c : Option Ty) (ta tb : Ty) → JoinedSlot names at a b (Gives c) → a ≡ Some ta → b ≡ Some tb → JoinedAt names at ta tb c
slot_in names at None b c ta tb h e f = no_slot ta e
slot_in names at (Some a) None c ta tb h e f = no_slot tb f
slot_in names at (Some a) (Some b) c ta tb h e f =
    let t = then_gives _ _ c h in
    let both : JoinedType names at ta tb (Gives t.0) = subst (λ (u : Ty). JoinedType names at ta u (Gives t.0)) (same_slot b tb f) (subst (λ (u : Ty). JoinedType names at u b (Gives t.0)) (same_slot a ta e) t.1) in
    (t.0, given_is c (Some t.0) t.2, both)

slots_in : (names : List Declared) (at : ℕ) (slots bs cs : List (Option Ty)) (x : ℕ) (ta tb : Ty) → JoinedAll names at slots bs cs → slot_at slots x ≡ Some ta → slot_at bs x ≡ Some tb → JoinedAt names at ta tb (slot_at cs x)
slots_in names at [] bs cs x ta tb h e f = no_slot ta e
slots_in names at (a ∷ slots) [] cs x ta tb h e f = no_slot tb f
slots_in names at (a ∷ slots) (b ∷ bs) [] x ta tb h e f = absurd h
slots_in names at (a ∷ slots) (b ∷ bs) (c ∷ cs) zero ta tb h e f = slot_in names at a b c ta tb h.0 e f
slots_in names at (a ∷ slots) (b ∷ bs) (c ∷ cs) (suc x) ta tb h e f = slots_in names at slots bs cs x ta tb h.1 e f

-- ---- two points

-- no path gets to the second; or one gets there and none to the first; or one to each
abbrev Cases : List Declared → ℕ → Environment → Environment → Environment → Type 0
Cases names at a b c = ((b.reached ≡ false) × (c ≡ a)) ⊎ (((b.reached ≡ true) × (a.reached ≡ false) × (c ≡ b)) ⊎ ((b.reached ≡ true) × (a.reached ≡ true) × JoinedTypes names at a.types b.types (Gives c)))

cases : (names : List Declared) (at : ℕ) (a b c : Environment) → Joined names at a b (Gives c) → Cases names at a b c
cases names at a b c h = by b.reached a.reached refl refl h where
  by : (x y : Bool) → b.reached ≡ x → a.reached ≡ y → cond x (cond y (JoinedTypes names at a.types b.types (Gives c)) (Give b (Gives c))) (Give a (Gives c)) → Cases names at a b c
  by false y e f g = inl (e, given_is c a g)
  by true false e f g = inr (inl (e, f, given_is c b g))
  by true true e f g = inr (inr (e, f, g))

-- behind two points that paths get to
record Whole (names : List Declared) (at : ℕ) (a b c : Environment) : Type 0 where
  pub reached : c.reached ≡ true
  pub each : (x : ℕ) (ta tb : Ty) → slot_at a.types x ≡ Some ta → slot_at b.types x ≡ Some tb → JoinedAt names at ta tb (slot_at c.types x)

whole : (names : List Declared) (at : ℕ) (a b c : Environment) → JoinedTypes names at a.types b.types (Gives c) → Whole names at a b c
whole names at a b c h =
    let t = then_gives _ _ c h in
    let is : c ≡ record { reached = true; types = t.0 } = given_is c (record { reached = true; types = t.0 }) t.2 in
    let r = joined_slots names at [] a.types b.types t.0 t.1 in
    let types : c.types ≡ r.0 = ap (λ (e : Environment). e.types) is ∙ r.1 in
    record {
      reached = ap (λ (e : Environment). e.reached) is;
      each = λ x ta tb e f. subst (λ (l : List (Option Ty)). JoinedAt names at ta tb (slot_at l x)) (sym types) (slots_in names at a.types b.types r.0 x ta tb r.2 e f);
    }

module _ (names : List Declared) (at : ℕ) (a b c : Environment) (h : Joined names at a b (Gives c)) where
  pub reached_left : a.reached ≡ true → c.reached ≡ true
  reached_left e = by (cases names at a b c h) where
    by : Cases names at a b c → c.reached ≡ true
    by (inl g) = ap (λ (v : Environment). v.reached) g.1 ∙ e
    by (inr (inl g)) = absurd (not_both a.reached e g.1)
    by (inr (inr g)) = (whole names at a b c g.2).reached

  pub reached_right : b.reached ≡ true → c.reached ≡ true
  reached_right e = by (cases names at a b c h) where
    by : Cases names at a b c → c.reached ≡ true
    by (inl g) = absurd (not_both b.reached e g.0)
    by (inr (inl g)) = ap (λ (v : Environment). v.reached) g.2 ∙ e
    by (inr (inr g)) = (whole names at a b c g.2).reached

  pub both_dead : a.reached ≡ false → b.reached ≡ false → c.reached ≡ false
  both_dead e f = by (cases names at a b c h) where
    by : Cases names at a b c → c.reached ≡ false
    by (inl g) = ap (λ (v : Environment). v.reached) g.1 ∙ e
    by (inr (inl g)) = absurd (not_both b.reached g.0 f)
    by (inr (inr g)) = absurd (not_both b.reached g.0 f)

  -- a variable that has a type on each path that gets there has one behind them
  pub joined_has : (x : ℕ) → HasIf a x → HasIf b x → HasIf c x
  joined_has x ha hb e = by (cases names at a b c h) where
    by : Cases names at a b c → Has c x
    by (inl g) = subst (λ (v : Environment). Has v x) (sym g.1) (ha (sym (ap (λ (v : Environment). v.reached) g.1) ∙ e))
    by (inr (inl g)) = subst (λ (v : Environment). Has v x) (sym g.2) (hb g.0)
    by (inr (inr g)) = let ta = ha g.1 in let tb = hb g.0 in let j = (whole names at a b c g.2).each x ta.0 tb.0 ta.1 tb.1 in (j.0, j.1)

  module _ (recur : RecurThroughParts names) (x : ℕ) (d : Datum) where
    pub in_left : In names a x d → HasIf b x → In names c x d
    in_left i hb = by (cases names at a b c h) where
      by : Cases names at a b c → In names c x d
      by (inl g) = subst (λ (v : Environment). In names v x d) (sym g.1) i
      by (inr (inl g)) = absurd (not_both a.reached i.reached g.1)
      by (inr (inr g)) =
          let w = whole names at a b c g.2 in
          let tb = hb g.0 in
          let j = w.each x i.ty tb.0 i.slot tb.1 in
          record { reached = w.reached; ty = j.0; slot = j.1; inside = joined_in names recur at i.ty tb.0 j.0 j.2 d (inl i.inside) }

    pub in_right : In names b x d → HasIf a x → In names c x d
    in_right i ha = by (cases names at a b c h) where
      by : Cases names at a b c → In names c x d
      by (inl g) = absurd (not_both b.reached i.reached g.0)
      by (inr (inl g)) = subst (λ (v : Environment). In names v x d) (sym g.2) i
      by (inr (inr g)) =
          let w = whole names at a b c g.2 in
          let ta = ha g.1 in
          let j = w.each x ta.0 i.ty ta.1 i.slot in
          record { reached = w.reached; ty = j.0; slot = j.1; inside = joined_in names recur at ta.0 i.ty j.0 j.2 d (inr i.inside) }

-- ---- behind a loop

abbrev AllHave : List Environment → ℕ → Type 0
AllHave bs x = (e : Environment) → IsOne e bs → HasIf e x

pub exit_reached : (names : List Declared) (at : ℕ) (bs : List Environment) (env c : Environment) → Exit names at bs env (Gives c) → env.reached ≡ true → c.reached ≡ true
exit_reached names at [] env c h e = ap (λ (v : Environment). v.reached) (given_is c env h) ∙ e
exit_reached names at (b ∷ bs) env c h e = let t = then_gives _ _ c h in exit_reached names at bs t.0 c t.2 (reached_left names at env b t.0 t.1 e)

pub exit_dead : (names : List Declared) (at : ℕ) (bs : List Environment) (env c : Environment) → Exit names at bs env (Gives c) → env.reached ≡ false → ((e : Environment) → IsOne e bs → e.reached ≡ true → ⊥) → c.reached ≡ false
exit_dead names at [] env c h e none = ap (λ (v : Environment). v.reached) (given_is c env h) ∙ e
exit_dead names at (b ∷ bs) env c h e none =
    let t = then_gives _ _ c h in exit_dead names at bs t.0 c t.2 (both_dead names at env b t.0 t.1 e (by b.reached refl)) (λ v o. none v (inr o))
  where
    by : (y : Bool) → b.reached ≡ y → b.reached ≡ false
    by true q = absurd (none b (inl refl) q)
    by false q = q

pub exit_has : (names : List Declared) (at : ℕ) (bs : List Environment) (env c : Environment) (x : ℕ) → Exit names at bs env (Gives c) → HasIf env x → AllHave bs x → HasIf c x
exit_has names at [] env c x h he all = subst (λ (v : Environment). HasIf v x) (sym (given_is c env h)) he
exit_has names at (b ∷ bs) env c x h he all = let t = then_gives _ _ c h in exit_has names at bs t.0 c x t.2 (joined_has names at env b t.0 t.1 x he (all b (inl refl))) (λ v o. all v (inr o))

module _ (names : List Declared) (recur : RecurThroughParts names) (at : ℕ) (x : ℕ) (d : Datum) where
  pub exit_first : (bs : List Environment) (env c : Environment) → Exit names at bs env (Gives c) → In names env x d → AllHave bs x → In names c x d
  exit_first [] env c h i all = subst (λ (v : Environment). In names v x d) (sym (given_is c env h)) i
  exit_first (b ∷ bs) env c h i all = let t = then_gives _ _ c h in exit_first bs t.0 c t.2 (in_left names at env b t.0 t.1 recur x d i (all b (inl refl))) (λ v o. all v (inr o))

  pub exit_break : (bs : List Environment) (env c : Environment) → Exit names at bs env (Gives c) → HasIf env x → AllHave bs x → (e : Environment) → IsOne e bs → In names e x d → In names c x d
  exit_break [] env c h he all e o i = absurd o
  exit_break (b ∷ bs) env c h he all e (inl q) i =
      let t = then_gives _ _ c h in
      let here : In names b x d = subst (λ (v : Environment). In names v x d) (sym q) i in
      exit_first bs t.0 c t.2 (in_right names at env b t.0 t.1 recur x d here he) (λ v o. all v (inr o))
  exit_break (b ∷ bs) env c h he all e (inr o) i =
      let t = then_gives _ _ c h in exit_break bs t.0 c t.2 (joined_has names at env b t.0 t.1 x he (all b (inl refl))) (λ v w. all v (inr w)) e o i
