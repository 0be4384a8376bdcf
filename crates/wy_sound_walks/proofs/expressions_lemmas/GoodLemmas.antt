-- Evaluations that are no fault where something holds, step by step.
use Rattle.std.proofs.Common.{◌≡◌, ℕ, zero, suc, ◌+◌, List, [], ◌∷◌, ◌++◌, Bool, true, false, cond, Option, Some, None, nat_lt, ℤ, refl}
use Rattle.wy_value.specs.Datum.{Datum, Null, Truth, Whole, Array, Record}
use Rattle.wy_sound_terms.specs.wy_sem.Meter.{Meter, Outcome, Done, Fault, More, Spent, Run, ◌>>=◌, tick, spend, count, turn}
use Rattle.wy_sound_terms.specs.wy_vc_spec.Owed.{Owed}
use Rattle.wy_sound_walks.specs.expressions.Truth.{AreTrueBy, Good}

pub true_left : (members : ℕ → Datum → Bool) (cs ds : List Owed) → AreTrueBy members (cs ++ ds) → AreTrueBy members cs
true_left members [] ds h = tt
true_left members (c ∷ cs) ds h = (h.0, true_left members cs ds h.1)

pub true_right : (members : ℕ → Datum → Bool) (cs ds : List Owed) → AreTrueBy members (cs ++ ds) → AreTrueBy members ds
true_right members [] ds h = h
true_right members (c ∷ cs) ds h = true_right members cs ds h.1

true_both : (members : ℕ → Datum → Bool) (cs ds : List Owed) → AreTrueBy members cs → AreTrueBy members ds → AreTrueBy members (cs ++ ds)
true_both members [] ds h g = g
true_both members (c ∷ cs) ds h g = (h.0, true_both members cs ds h.1 g)

pub true_after : (members : ℕ → Datum → Bool) (bs cs ds : List Owed) → AreTrueBy members ((bs ++ cs) ++ ds) → AreTrueBy members (cs ++ ds)
true_after members bs cs ds t = true_both members cs ds (true_right members bs cs (true_left members (bs ++ cs) ds t)) (true_right members (bs ++ cs) ds t)

pub good_weaken : {X : Type 0} (A B : Type 0) (o : Outcome X) (P : X → Type 0) → (A → B) → Good B o P → Good A o P
good_weaken A B (Done x m) P f h = h
good_weaken A B (Fault kind at m) P f h = λ a. h (f a)
good_weaken A B (More m) P f h = tt
good_weaken A B Spent P f h = tt

pub good_map : {X : Type 0} (A : Type 0) (o : Outcome X) (P Q : X → Type 0) → Good A o P → ((x : X) (m : Meter) → o ≡ Done x m → P x → Q x) → Good A o Q
good_map A (Done x m) P Q h g = g x m refl h
good_map A (Fault kind at m) P Q h g = h
good_map A (More m) P Q h g = tt
good_map A Spent P Q h g = tt

pub good_bind : {X Y : Type 0} (A B C : Type 0) (o : Outcome X) (f : X → Run Y) (P : X → Type 0) (Q : Y → Type 0) → (A → B) → (A → C) → Good B o P → ((x : X) (m : Meter) → o ≡ Done x m → P x → Good C (f x m) Q) → Good A (o >>= f) Q
good_bind A B C (Done x m) f P Q b c h g = good_weaken A C (f x m) Q c (g x m refl h)
good_bind A B C (Fault kind at m) f P Q b c h g = λ a. h (b a)
good_bind A B C (More m) f P Q b c h g = tt
good_bind A B C Spent f P Q b c h g = tt

good_tick : {X : Type 0} (A : Type 0) (left : ℕ) (r : Run X) (P : X → Type 0) → ((m : Meter) → Good A (r m) P) → (m : Meter) → Good A (tick left r m) P
good_tick A zero r P h m = tt
good_tick A (suc left) r P h m = h (record m { ticks = left })

pub good_spend : {X : Type 0} (A : Type 0) (paid : Bool) (r : Run X) (P : X → Type 0) → ((m : Meter) → Good A (r m) P) → (m : Meter) → Good A (spend paid r m) P
good_spend A true r P h m = good_tick A m.ticks r P h m
good_spend A false r P h m = h m

good_cond : {X : Type 0} (A : Type 0) (b : Bool) (o : Outcome X) (P : X → Type 0) → Good A o P → Good A (cond b o Spent) P
good_cond A true o P h = h
good_cond A false o P h = tt

pub good_turn : {X : Type 0} (A : Type 0) (limit : Option ℕ) (paid : Bool) (r : Run X) (P : X → Type 0) → ((m : Meter) → Good A (r m) P) → (m : Meter) → Good A (turn limit paid r m) P
good_turn A limit true r P h m = good_tick A m.ticks r P h m
good_turn A None false r P h m = h (record m { turns = m.turns + 1 })
good_turn A (Some limit) false r P h m = good_cond A (nat_lt m.turns limit) (r (record m { turns = m.turns + 1 })) P (h (record m { turns = m.turns + 1 }))
