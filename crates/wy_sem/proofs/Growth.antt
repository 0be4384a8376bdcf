-- More ticks: an evaluation does the same, or goes on.
use Rattle.std.proofs.Common.{◌≡◌, refl, ◌∙◌, ap, subst, ℕ, zero, suc, ◌+◌, ◌≤◌, List, [], ◌++◌, Bool, append_assoc, arith, rules}
use Rattle.std.specs.Prelude.{Option, Some, None}
use Rattle.wy_term.specs.wy_value.Datum.{Datum}
use Rattle.wy_types.specs.wy_core.CoreTree.{Core, routines_of}
use Rattle.wy_sem.specs.Meter.{Meter, Outcome, Done, Fault, More, Spent, Run, ◌>>=◌, tick, count}
use Rattle.wy_sem.specs.TypeTests.{forgiven}
use Rattle.wy_sem.specs.Evaluation.{evaluate, start, callee, place_of}
use Rattle.wy_sem.specs.Relation.{Relation, Bounds}
use Rattle.wy_sem.specs.Growth.{Begins, output_of, richer, Grows, IsUnique, Ending, ending}
use Rattle.wy_sem.proofs.RelatedCalls.{begun-kept}

-- what was printed before is printed still
abbrev Extends : {X : Type 0} → List ℕ → Outcome X → Type 0
Extends out (Done x m) = Begins out m.output
Extends out (Fault kind at m) = Begins out m.output
Extends out (More m) = Begins out m.output
Extends out Spent = ⊥

-- the second is the first, with so many ticks more; or the first ran out of ticks
abbrev Follows : {X : Type 0} → ℕ → Outcome X → Outcome X → Type 0
Follows i (Done x m) p = p ≡ Done x (richer i m)
Follows i (Fault kind at m) p = p ≡ Fault kind at (richer i m)
Follows i (More m) p = Extends m.output p
Follows i Spent p = p ≡ Spent

record Later (i : ℕ) (X : Type 0) (r s : Run X) : Type 0 where
  later : (m : Meter) → Follows i (r m) (s (richer i m))
  extends : (m : Meter) → Extends m.output (s m)

begins-itself : (out : List ℕ) → Begins out out
begins-itself out = ([], search rules)

begins-on : (a b c : List ℕ) → Begins a b → Begins b c → Begins a c
begins-on a b c (p, e) (q, d) = (p ++ q, d ∙ (ap (λ l. l ++ q) e ∙ append_assoc a p q))

extends-on : {X : Type 0} (a b : List ℕ) (o : Outcome X) → Begins a b → Extends b o → Extends a o
extends-on a b (Done x m) h e = begins-on a b m.output h e
extends-on a b (Fault kind at m) h e = begins-on a b m.output h e
extends-on a b (More m) h e = begins-on a b m.output h e
extends-on a b Spent h e = e

extends-bind : {X Y : Type 0} (out : List ℕ) (o : Outcome X) (g : X → Run Y) → Extends out o → ((x : X) (m : Meter) → Extends m.output (g x m)) → Extends out (o >>= g)
extends-bind out (Done x m) g e h = extends-on out m.output (g x m) e (h x m)
extends-bind out (Fault kind at m) g e h = e
extends-bind out (More m) g e h = e
extends-bind out Spent g e h = e

follows-bind : {X Y : Type 0} (i : ℕ) (o p : Outcome X) (f g : X → Run Y) → Follows i o p → ((x : X) (m : Meter) → Follows i (f x m) (g x (richer i m))) → ((x : X) (m : Meter) → Extends m.output (g x m)) → Follows i (o >>= f) (p >>= g)
follows-bind i (Done x m) p f g e h w = rw e (h x m)
follows-bind i (Fault kind at m) p f g e h w = rw e refl
follows-bind i (More m) p f g e h w = extends-bind m.output p g e w
follows-bind i Spent p f g e h w = rw e refl

extends-tick : {X : Type 0} (s : Run X) → ((m : Meter) → Extends m.output (s m)) → (j : ℕ) (m : Meter) → Extends m.output (tick j s m)
extends-tick s h zero m = begins-itself m.output
extends-tick s h (suc j) m = h (record m { ticks = j })

follows-tick : {X : Type 0} (i : ℕ) (r s : Run X) → Later i X r s → (t : ℕ) (m : Meter) → Follows i (tick t r m) (tick (t + i) s (record m { ticks = t + i }))
follows-tick i r s p zero m = extends-tick s p.extends (0 + i) (record m { ticks = 0 + i })
follows-tick i r s p (suc t) m = let e : suc t + i ≡ suc (t + i) = omega arith in rw e (p.later (record m { ticks = t }))

extends-forgiven : (out : List ℕ) (o : Outcome Bool) → Extends out o → Extends out (forgiven o)
extends-forgiven out (Done b m) e = e
extends-forgiven out (Fault kind at m) e = e
extends-forgiven out (More m) e = e
extends-forgiven out Spent e = e

follows-forgiven : (i : ℕ) (o p : Outcome Bool) → Follows i o p → Follows i (forgiven o) (forgiven p)
follows-forgiven i (Done b m) p h = rw h refl
follows-forgiven i (Fault kind at m) p h = rw h refl
follows-forgiven i (More m) p h = extends-forgiven m.output p h
follows-forgiven i Spent p h = rw h refl

abbrev later : ℕ → Relation
later i = record {
  Rel = Later i;
  done = λ X x. record { later = λ m. refl; extends = λ m. begins-itself m.output };
  fault = λ X kind at. record { later = λ m. refl; extends = λ m. begins-itself m.output };
  more = λ X. record { later = λ m. begins-itself m.output; extends = λ m. begins-itself m.output };
  bind = λ X Y r s f g p h. record {
    later = λ m. follows-bind i (r m) (s (richer i m)) f g (p.later m) (λ x k. (h x).later k) (λ x k. (h x).extends k);
    extends = λ m. extends-bind m.output (s m) g (p.extends m) (λ x k. (h x).extends k);
  };
  prints = λ bytes. record { later = λ m. refl; extends = λ m. (bytes, refl) };
  pardon = λ r s p. record { later = λ m. follows-forgiven i (r m) (s (richer i m)) (p.later m); extends = λ m. extends-forgiven m.output (s m) (p.extends m) };
}

later-ticks : (i : ℕ) (X : Type 0) (r s : Run X) → Later i X r s → Later i X (λ m. tick m.ticks r m) (λ m. tick m.ticks s m)
later-ticks i X r s p = record { later = λ m. follows-tick i r s p m.ticks m; extends = λ m. extends-tick s p.extends m.ticks m }

later-counts : (i : ℕ) (X : Type 0) (r s : Run X) → Later i X r s → Later i X (λ m. count None r m) (λ m. count None s m)
later-counts i X r s p = record { later = λ m. p.later (record m { turns = m.turns + 1 }); extends = λ m. p.extends (record m { turns = m.turns + 1 }) }

later-bounds : (i : ℕ) → Bounds (later i)
later-bounds i = record {
  Beside = λ a b. a ≤ b;
  alike = λ a. omega arith;
  below = λ a b h. omega arith;
  never = λ a h. omega arith;
  ended = λ X b r s near p. record { later = λ m. p.extends (richer i m); extends = p.extends };
  begun = λ X f g h. record { later = λ m. (h (suc m.ticks) (suc (m.ticks + i)) (omega arith)).later m; extends = λ m. (h (suc m.ticks) (suc m.ticks) (omega arith)).extends m };
}

module _ {N : Type 0} (place : N → ℕ) (core : Core N) (f : ℕ) (vs : List Datum) where
  evaluate-later : (k i : ℕ) → Follows i (evaluate place core f vs k) (evaluate place core f vs (k + i))
  evaluate-later k i = (begun-kept place (later i) (later-bounds i) (later-ticks i) None None (later-ticks i) (later-counts i) core f (place_of (callee (routines_of core) f)) vs).later (start k)

output-follows : {X : Type 0} (i : ℕ) (o p : Outcome X) → Follows i o p → Begins (output_of o) (output_of p)
output-follows i (Done x m) p h = rw h (begins-itself m.output)
output-follows i (Fault kind at m) p h = rw h (begins-itself m.output)
output-follows i (More m) (Done x k) h = h
output-follows i (More m) (Fault kind at k) h = h
output-follows i (More m) (More k) h = h
output-follows i (More m) Spent h = absurd h
output-follows i Spent p h = rw h (begins-itself [])

ending-follows : (i : ℕ) (o p : Outcome (Option Datum)) (d : Ending) → Follows i o p → ending o ≡ Some d → ending p ≡ Some d
ending-follows i (Done v m) p d h e = rw h e
ending-follows i (Fault kind at m) p d h e = rw h e
ending-follows i (More m) p d h e = absurd (cc)
ending-follows i Spent p d h e = absurd (cc)

-- an evaluation with more ticks
pub grows : {N : Type 0} (place : N → ℕ) (core : Core N) (f : ℕ) (vs : List Datum) → Grows place core f vs
grows place core f vs = record {
  stays = λ k i v m e. subst (λ (o : Outcome (Option Datum)). Follows i o (evaluate place core f vs (k + i))) e (evaluate-later place core f vs k i);
  fault_stays = λ k i kind at m e. subst (λ (o : Outcome (Option Datum)). Follows i o (evaluate place core f vs (k + i))) e (evaluate-later place core f vs k i);
  output_grows = λ k i. output-follows i (evaluate place core f vs k) (evaluate place core f vs (k + i)) (evaluate-later place core f vs k i);
}

-- there is one ending
pub is_unique : {N : Type 0} (place : N → ℕ) (core : Core N) (f : ℕ) (vs : List Datum) → IsUnique place core f vs
is_unique place core f vs k j d e p q =
    let first : ending (evaluate place core f vs (k + j)) ≡ Some d = ending-follows j _ _ d (evaluate-later place core f vs k j) p in
    let other : ending (evaluate place core f vs (j + k)) ≡ Some e = ending-follows k _ _ e (evaluate-later place core f vs j k) q in
    let turned : j + k ≡ k + j = omega arith in
    let second : ending (evaluate place core f vs (k + j)) ≡ Some e = subst (λ (n : ℕ). ending (evaluate place core f vs n) ≡ Some e) turned other in
    cc
