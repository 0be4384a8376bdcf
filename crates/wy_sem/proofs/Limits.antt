-- A limit on turns is spent exactly where the count of turns passes it.
use Rattle.std.proofs.Common.{◌≡◌, refl, ℕ, zero, suc, ◌+◌, ◌<◌, ◌≤◌, ◌⊎◌, inl, inr, List, [], ◌∷◌, Bool, true, false, cond, arith, length}
use Rattle.std.specs.Prelude.{◌≢◌, Option, Some, None, nat_lt, nat_eq}
use Rattle.std.proofs.lemmas.Bool.{cases_lt, ltb-true, ltb-false}
use Rattle.wy_term.specs.wy_value.Datum.{Datum}
use Rattle.wy_types.specs.wy_core.CoreTree.{Core, Expr, Alias, Param, Routine, routines_of, aliases_of}
use Rattle.wy_sem.specs.Meter.{Meter, Outcome, Done, Fault, More, Spent, Run, ◌>>=◌, tick, count}
use Rattle.wy_sem.specs.Expressions.{Store, no_calls}
use Rattle.wy_sem.specs.TypeTests.{forgiven, tests, clause_setting}
use Rattle.wy_sem.specs.Evaluation.{start, Callee, Declared, Print, PrintInt, Undeclared, callee, place_of, printed, turns_of, entry_of}
use Rattle.wy_sem.specs.Precondition.{Verdict, Met, CountFails, TypeFails, RequiresFails, passed, requires_met, types_met, routine_met, callee_met}
use Rattle.wy_sem.specs.Relation.{Relation, Turns, Bounds}
use Rattle.wy_sem.specs.Growth.{Settles, LimitIsExact}
use Rattle.wy_sem.proofs.RelatedTests.{member-kept, tests-kept, holds-kept}
use Rattle.wy_sem.proofs.RelatedCalls.{begun-kept}

-- turns only grow, and without a limit none is wanted beyond it
abbrev Rises : {X : Type 0} → ℕ → Outcome X → Type 0
Rises n (Done x m) = n ≤ m.turns
Rises n (Fault kind at m) = n ≤ m.turns
Rises n (More m) = n ≤ m.turns
Rises n Spent = ⊥

record Within (limit : ℕ) (X : Type 0) (r s : Run X) : Type 0 where
  settles : (m : Meter) → m.turns ≤ limit → Settles limit (turns_of (r m)) (r m) (s m)
  rises : (m : Meter) → Rises m.turns (r m)

rises-number : {X : Type 0} (n : ℕ) (o : Outcome X) → Rises n o → n ≤ turns_of o
rises-number n (Done x m) h = h
rises-number n (Fault kind at m) h = h
rises-number n (More m) h = h
rises-number n Spent h = absurd h

rises-unspent : {X : Type 0} (n : ℕ) (o : Outcome X) → Rises n o → o ≢ Spent
rises-unspent n (Done x m) h e = absurd (cc)
rises-unspent n (Fault kind at m) h e = absurd (cc)
rises-unspent n (More m) h e = absurd (cc)
rises-unspent n Spent h e = absurd h

rises-from : {X : Type 0} (k n : ℕ) (o : Outcome X) → k ≤ n → Rises n o → Rises k o
rises-from k n (Done x m) e h = omega arith
rises-from k n (Fault kind at m) e h = omega arith
rises-from k n (More m) e h = omega arith
rises-from k n Spent e h = h

rises-bind : {X Y : Type 0} (n : ℕ) (o : Outcome X) (f : X → Run Y) → Rises n o → ((x : X) (m : Meter) → Rises m.turns (f x m)) → Rises n (o >>= f)
rises-bind n (Done x m) f h g = rises-from n m.turns (f x m) h (g x m)
rises-bind n (Fault kind at m) f h g = h
rises-bind n (More m) f h g = h
rises-bind n Spent f h g = h

settles-itself : {X : Type 0} (limit turns : ℕ) (o : Outcome X) → turns ≤ limit → Settles limit turns o o
settles-itself limit turns o h = record { within = λ e. refl; beyond = λ e. absurd (omega arith) }

settles-spent : {X : Type 0} (limit n : ℕ) (o : Outcome X) → limit < n → Rises n o → Settles limit (turns_of o) o Spent
settles-spent limit n o h r = let up : n ≤ turns_of o = rises-number n o r in record { within = λ e. absurd (omega arith); beyond = λ e. refl }

settles-done : {X Y : Type 0} (limit : ℕ) (x : X) (m : Meter) (p : Outcome X) (f g : X → Run Y) → Settles limit m.turns (Done x m) p
    → (m.turns ≤ limit → Settles limit (turns_of (f x m)) (f x m) (g x m)) → Rises m.turns (f x m) → (limit < m.turns) ⊎ (m.turns ≤ limit) → Settles limit (turns_of (f x m)) (f x m) (p >>= g)
settles-done limit x m p f g h k r (inr e) = rw (h.within e) (k e)
settles-done limit x m p f g h k r (inl e) = rw (h.beyond e) (settles-spent limit m.turns (f x m) e r)

settles-bind : {X Y : Type 0} (limit n : ℕ) (o p : Outcome X) (f g : X → Run Y) → Settles limit (turns_of o) o p → Rises n o
    → ((x : X) (m : Meter) → m.turns ≤ limit → Settles limit (turns_of (f x m)) (f x m) (g x m)) → ((x : X) (m : Meter) → Rises m.turns (f x m)) → Settles limit (turns_of (o >>= f)) (o >>= f) (p >>= g)
settles-bind limit n (Done x m) p f g h r k up = settles-done limit x m p f g h (k x m) (up x m) (cases_lt limit m.turns)
settles-bind limit n (Fault kind at m) p f g h r k up = record { within = λ e. rw (h.within e) refl; beyond = λ e. rw (h.beyond e) refl }
settles-bind limit n (More m) p f g h r k up = record { within = λ e. rw (h.within e) refl; beyond = λ e. rw (h.beyond e) refl }
settles-bind limit n Spent p f g h r k up = absurd r

settles-forgiven : (limit n : ℕ) (o p : Outcome Bool) → Rises n o → Settles limit (turns_of o) o p → Settles limit (turns_of (forgiven o)) (forgiven o) (forgiven p)
settles-forgiven limit n (Done b m) p r h = record { within = λ e. rw (h.within e) refl; beyond = λ e. rw (h.beyond e) refl }
settles-forgiven limit n (Fault kind at m) p r h = record { within = λ e. rw (h.within e) refl; beyond = λ e. rw (h.beyond e) refl }
settles-forgiven limit n (More m) p r h = record { within = λ e. rw (h.within e) refl; beyond = λ e. rw (h.beyond e) refl }
settles-forgiven limit n Spent p r h = absurd r

rises-forgiven : (n : ℕ) (o : Outcome Bool) → Rises n o → Rises n (forgiven o)
rises-forgiven n (Done b m) h = h
rises-forgiven n (Fault kind at m) h = h
rises-forgiven n (More m) h = h
rises-forgiven n Spent h = h

abbrev within : ℕ → Relation
within limit = record {
  Rel = Within limit;
  done = λ X x. record { settles = λ m h. settles-itself limit m.turns (Done x m) h; rises = λ m. omega arith };
  fault = λ X kind at. record { settles = λ m h. settles-itself limit m.turns (Fault kind at m) h; rises = λ m. omega arith };
  more = λ X. record { settles = λ m h. settles-itself limit m.turns (More m) h; rises = λ m. omega arith };
  bind = λ X Y r s f g p h. record {
    settles = λ m e. settles-bind limit m.turns (r m) (s m) f g (p.settles m e) (p.rises m) (λ x k. (h x).settles k) (λ x k. (h x).rises k);
    rises = λ m. rises-bind m.turns (r m) f (p.rises m) (λ x k. (h x).rises k);
  };
  prints = λ bytes. record { settles = λ m h. settles-itself limit m.turns (printed bytes m) h; rises = λ m. omega arith };
  pardon = λ r s p. record { settles = λ m e. settles-forgiven limit m.turns (r m) (s m) (p.rises m) (p.settles m e); rises = λ m. rises-forgiven m.turns (r m) (p.rises m) };
}

settles-tick : {X : Type 0} (limit : ℕ) (r s : Run X) → Within limit X r s → (t : ℕ) (m : Meter) → m.turns ≤ limit → Settles limit (turns_of (tick t r m)) (tick t r m) (tick t s m)
settles-tick limit r s p zero m h = settles-itself limit m.turns (More m) h
settles-tick limit r s p (suc t) m h = p.settles (record m { ticks = t }) h

rises-tick : {X : Type 0} (r : Run X) → ((m : Meter) → Rises m.turns (r m)) → (t : ℕ) (m : Meter) → Rises m.turns (tick t r m)
rises-tick r p zero m = omega arith
rises-tick r p (suc t) m = p (record m { ticks = t })

within-ticks : (limit : ℕ) (X : Type 0) (r s : Run X) → Within limit X r s → Within limit X (λ m. tick m.ticks r m) (λ m. tick m.ticks s m)
within-ticks limit X r s p = record { settles = λ m h. settles-tick limit r s p m.ticks m h; rises = λ m. rises-tick r p.rises m.ticks m }

settles-count : {X : Type 0} (limit : ℕ) (r s : Run X) → Within limit X r s → (m : Meter) → m.turns ≤ limit → (b : Bool) → nat_lt m.turns limit ≡ b
    → Settles limit (turns_of (r (record m { turns = m.turns + 1 }))) (r (record m { turns = m.turns + 1 })) (cond b (s (record m { turns = m.turns + 1 })) Spent)
settles-count limit r s p m h true e = let below : m.turns < limit = ltb-true m.turns limit e in p.settles (record m { turns = m.turns + 1 }) (omega arith)
settles-count limit r s p m h false e = let above : limit ≤ m.turns = ltb-false m.turns limit e in settles-spent limit (m.turns + 1) (r (record m { turns = m.turns + 1 })) (omega arith) (p.rises (record m { turns = m.turns + 1 }))

within-counts : (limit : ℕ) (X : Type 0) (r s : Run X) → Within limit X r s → Within limit X (λ m. count None r m) (λ m. count (Some limit) s m)
within-counts limit X r s p = record {
  settles = λ m h. settles-count limit r s p m h (nat_lt m.turns limit) refl;
  rises = λ m. rises-from m.turns (m.turns + 1) (r (record m { turns = m.turns + 1 })) (omega arith) (p.rises (record m { turns = m.turns + 1 }));
}

within-bounds : (limit : ℕ) → Bounds (within limit)
within-bounds limit = record {
  Beside = λ a b. a ≡ b;
  alike = λ a. refl;
  below = λ a b h. cc;
  never = λ a h. cc;
  ended = λ X b r s near p. absurd (cc);
  begun = λ X f g h. record { settles = λ m e. (h (suc m.ticks) (suc m.ticks) refl).settles m e; rises = λ m. (h (suc m.ticks) (suc m.ticks) refl).rises m };
}

passed-kept : (q : Relation) (b : Bool) (wrong : Verdict) (f g : Run Verdict) → q.Rel Verdict f g → q.Rel Verdict (passed b wrong f) (passed b wrong g)
passed-kept q true wrong f g p = p
passed-kept q false wrong f g p = q.done Verdict wrong

module _ {N : Type 0} (place : N → ℕ) (q : Relation) (l1 l2 : Option ℕ) (turns : Turns q l1 l2 false) (types : List (Alias N)) where
  requires-kept : (es : List (Expr N)) (s : Store) (k : ℕ) → q.Rel Verdict (requires_met (clause_setting place l1 types) es s k) (requires_met (clause_setting place l2 types) es s k)
  requires-kept [] s k = q.done Verdict Met
  requires-kept (e ∷ es) s k = q.bind Bool Verdict _ _ _ _
      (q.pardon _ _ (holds-kept place q l1 l2 turns (tests place l1 types (suc (length types))) (tests place l2 types (suc (length types)))
      (λ t d. tests-kept place q l1 l2 types false (λ X r s p. p) turns (suc (length types)) t d) no_calls no_calls e s))
      (λ b. passed-kept q b (RequiresFails k) _ _ (requires-kept es s (k + 1)))

  types-kept : (ps : List Param) (vs : List Datum) (k : ℕ) (f g : Run Verdict) → q.Rel Verdict f g → q.Rel Verdict (types_met place l1 types ps vs k f) (types_met place l2 types ps vs k g)
  types-kept [] vs k f g p = p
  types-kept (a ∷ ps) [] k f g p = p
  types-kept (a ∷ ps) (v ∷ vs) k f g p = q.bind Bool Verdict _ _ _ _ (member-kept place q l1 l2 types turns a.ty v) (λ b. passed-kept q b (TypeFails k) _ _ (types-kept ps vs (k + 1) f g p))

  routine_met-kept : (r : Routine N) (vs : List Datum) → q.Rel Verdict (routine_met place l1 types r vs) (routine_met place l2 types r vs)
  routine_met-kept r vs = passed-kept q (nat_eq (length vs) (length r.params)) CountFails _ _ (types-kept r.params vs 1 _ _ (requires-kept r.preconditions (entry_of r vs) 1))

  met-kept : (g : Callee N) (vs : List Datum) → q.Rel Verdict (callee_met place l1 types g vs) (callee_met place l2 types g vs)
  met-kept (Declared r) vs = routine_met-kept r vs
  met-kept Print vs = q.done Verdict CountFails
  met-kept PrintInt vs = q.done Verdict CountFails
  met-kept Undeclared vs = q.done Verdict CountFails

-- a limit is spent exactly where the count passes it
pub limit_is_exact : {N : Type 0} (place : N → ℕ) (core : Core N) (f : ℕ) (vs : List Datum) (limit : ℕ) → LimitIsExact place core f vs limit
limit_is_exact place core f vs limit = record {
  evaluation = λ k. (begun-kept place (within limit) (within-bounds limit) (within-ticks limit) None (Some limit) (within-ticks limit) (within-counts limit) core f (place_of (callee (routines_of core) f)) vs).settles (start k) (omega arith);
  test = (met-kept place (within limit) None (Some limit) (within-counts limit) (aliases_of core) (callee (routines_of core) f) vs).settles (start 0) (omega arith);
  evaluation_unspent = λ k. rises-unspent 0 _ ((begun-kept place (within limit) (within-bounds limit) (within-ticks limit) None (Some limit) (within-ticks limit) (within-counts limit) core f (place_of (callee (routines_of core) f)) vs).rises (start k));
  test_unspent = rises-unspent 0 _ ((met-kept place (within limit) None (Some limit) (within-counts limit) (aliases_of core) (callee (routines_of core) f) vs).rises (start 0));
}
