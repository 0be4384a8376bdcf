-- Variables in a store, and numbers over it.
use Rattle.std.proofs.Common.{◌≡◌, ◌≢◌, ℕ, zero, suc, ◌<◌, ◌≤◌, ℤ, Bool, true, false, cond, List, [], ◌∷◌, length, get_or, Option, Some, None, refl, sym, ap, ◌∙◌, subst, arith}
use Rattle.std.specs.Prelude.{nat_eq, set}
use Rattle.std.specs.Cmp.{unsigned_Decides}
use Rattle.wy_value.specs.Datum.{Datum, Whole}
use Rattle.wy_value.specs.declared.value.Value.{Value}
use Rattle.wy_sem.specs.Expressions.{Store, slot, put}
use Rattle.wy_eval_exprs.specs.Operands.{seen_option}
use Rattle.wy_eval_exprs.specs.Scopes.{number_at, scope, store_of}

pub slot_past : (s : Store) (x : ℕ) → length s ≤ x → slot s x ≡ None
slot_past [] x over = refl
slot_past (v ∷ vs) zero over = absurd (omega (arith, over))
slot_past (v ∷ vs) (suc x) over = slot_past vs x (omega (arith, over))

length_put : (s : Store) (x : ℕ) (w : Option Datum) → length (put s x w) ≡ length s
length_put [] x w = refl
length_put (v ∷ vs) zero w = refl
length_put (v ∷ vs) (suc x) w = ap suc (length_put vs x w)

slot_put : (s : Store) (x : ℕ) (w : Option Datum) → x < length s → slot (put s x w) x ≡ w
slot_put [] x w within = absurd (omega (arith, within))
slot_put (v ∷ vs) zero w within = refl
slot_put (v ∷ vs) (suc x) w within = slot_put vs x w (omega (arith, within))

slot_other : (s : Store) (x y : ℕ) (w : Option Datum) → x ≢ y → slot (put s x w) y ≡ slot s y
slot_other [] x y w other = refl
slot_other (v ∷ vs) zero zero w other = absurd (other refl)
slot_other (v ∷ vs) zero (suc y) w other = refl
slot_other (v ∷ vs) (suc x) zero w other = refl
slot_other (v ∷ vs) (suc x) (suc y) w other = slot_other vs x y w (λ e. other (ap suc e))

pub length_scope : (s : Store) (bs : List (ℕ × ℤ)) → length (scope s bs) ≡ length s
length_scope s [] = refl
length_scope s (b ∷ bs) = length_put (scope s bs) b.0 (Some (Whole b.1)) ∙ length_scope s bs

-- what is seen: the number of the innermost quantifier, else what is held
abbrev pub under : Option ℤ → Option Datum → Option Datum
under None held = held
under (Some z) held = Some (Whole z)

pub slot_scope : (s : Store) (bs : List (ℕ × ℤ)) (x : ℕ) → x < length s → slot (scope s bs) x ≡ under (number_at bs x) (slot s x)
slot_scope s [] x within = refl
slot_scope s (b ∷ bs) x within = by (nat_eq b.0 x) refl (slot_scope s bs x within)
  where
    within_scope : x < length (scope s bs)
    within_scope = subst (λ n. x < n) (sym (length_scope s bs)) within

    differ : false ≡ true → ⊥
    differ e = absurd cc

    by : (t : Bool) → nat_eq b.0 x ≡ t → slot (scope s bs) x ≡ under (number_at bs x) (slot s x) → slot (put (scope s bs) b.0 (Some (Whole b.1))) x ≡ under (cond t (Some b.1) (number_at bs x)) (slot s x)
    by true h before = ap (λ y. slot (put (scope s bs) y (Some (Whole b.1))) x) ((unsigned_Decides b.0 x).0 h) ∙ slot_put (scope s bs) x (Some (Whole b.1)) within_scope
    by false h before = slot_other (scope s bs) b.0 x (Some (Whole b.1)) (λ e. differ (sym h ∙ (unsigned_Decides b.0 x).1 e)) ∙ before

pub length_store : (vs : List (Option Value)) → length (store_of vs) ≡ length vs
length_store [] = refl
length_store (v ∷ vs) = ap suc (length_store vs)

pub slot_there : (vs : List (Option Value)) (x : ℕ) (v : Option Value) → x < length vs → v ≡ get_or vs x v → slot (store_of vs) x ≡ seen_option v
slot_there [] x v within is = absurd (omega (arith, within))
slot_there (w ∷ vs) zero v within is = ap seen_option (sym is)
slot_there (w ∷ vs) (suc x) v within is = slot_there vs x v (omega (arith, within)) is

-- no variable is seen beyond the store
pub nothing_seen : (vs : List (Option Value)) (bs : List (ℕ × ℤ)) (x : ℕ) → length vs ≤ x → slot (scope (store_of vs) bs) x ≡ None
nothing_seen vs bs x over = slot_past (scope (store_of vs) bs) x (subst (λ n. n ≤ x) (sym (length_scope (store_of vs) bs ∙ length_store vs)) over)

-- a number is seen where a quantifier binds one
pub number_seen : (vs : List (Option Value)) (bs : List (ℕ × ℤ)) (x : ℕ) (z : ℤ) → x < length vs → Some z ≡ number_at bs x → slot (scope (store_of vs) bs) x ≡ Some (Whole z)
number_seen vs bs x z within is = slot_scope (store_of vs) bs x (subst (λ n. x < n) (sym (length_store vs)) within) ∙ ap (λ o. under o (slot (store_of vs) x)) (sym is)

-- else it is what is held
pub held_seen : (vs : List (Option Value)) (bs : List (ℕ × ℤ)) (x : ℕ) (v : Option Value) → x < length vs → v ≡ get_or vs x v → None ≡ number_at bs x → slot (scope (store_of vs) bs) x ≡ seen_option v
held_seen vs bs x v within is none = slot_scope (store_of vs) bs x (subst (λ n. x < n) (sym (length_store vs)) within) ∙ (ap (λ o. under o (slot (store_of vs) x)) (sym none) ∙ slot_there vs x v within is)

pub store_put : (vs : List (Option Value)) (x : ℕ) (v : Option Value) → x < length vs → store_of (set vs x v) ≡ put (store_of vs) x (seen_option v)
store_put [] x v within = absurd (omega (arith, within))
store_put (w ∷ vs) zero v within = refl
store_put (w ∷ vs) (suc x) v within = ap (λ s. seen_option w ∷ s) (store_put vs x v (omega (arith, within)))

pub store_put_past : (vs : List (Option Value)) (x : ℕ) (w : Option Datum) → length vs ≤ x → store_of vs ≡ put (store_of vs) x w
store_put_past [] x w over = refl
store_put_past (v ∷ vs) zero w over = absurd (omega (arith, over))
store_put_past (v ∷ vs) (suc x) w over = ap (λ s. seen_option v ∷ s) (store_put_past vs x w (omega (arith, over)))
