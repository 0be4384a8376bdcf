-- Runs that end with an answer or a fault, and runs that end with an answer, from whatever meter: none wants a tick or a turn, spends a tick, or prints.
use Rattle.std.proofs.Common.{◌≡◌, ℕ, ◌+◌, Bool, false, refl, ◌∙◌}
use Rattle.std.specs.Prelude.{None}
use Rattle.wy_sem.specs.wy_term.declared.cond.CondKind.{CondKind}
use Rattle.wy_sem.specs.Meter.{Meter, Outcome, Done, Fault, More, Spent, Run, ◌>>=◌, turn}
use Rattle.wy_sem.specs.TypeTests.{forgiven}

-- a property of runs that answers and sequences have
pub record Endings : Type 1 where
  pub Rel : (X : Type 0) → Run X → Type 0
  pub done : (X : Type 0) (x : X) → Rel X (Done x)
  pub bind : (X Y : Type 0) (r : Run X) (f : X → Run Y) → Rel X r → ((x : X) → Rel Y (f x)) → Rel Y (λ m. r m >>= f)
  pub turned : (X : Type 0) (r : Run X) → Rel X r → Rel X (turn None false r)

-- ---- an answer or a fault, with as many ticks and the same output

-- from the one meter to the other no tick is spent and nothing printed
abbrev pub Stays : Meter → Meter → Type 0
Stays m k = (k.ticks ≡ m.ticks) × (k.output ≡ m.output)

abbrev pub Ended : {X : Type 0} → Meter → Outcome X → Type 0
Ended m (Done x k) = Stays m k
Ended m (Fault kind at k) = Stays m k
Ended m (More k) = ⊥
Ended m Spent = ⊥

pub record Ends (X : Type 0) (r : Run X) : Type 0 where
  pub ends : (m : Meter) → Ended m (r m)

stays-on : (m k l : Meter) → Stays m k → Stays k l → Stays m l
stays-on m k l s t = (t.0 ∙ s.0, t.1 ∙ s.1)

pub done : (X : Type 0) (x : X) → Ends X (Done x)
done X x = record { ends = λ m. (refl, refl) }

pub faulted : (X : Type 0) (kind : CondKind) (at : ℕ) → Ends X (Fault kind at)
faulted X kind at = record { ends = λ m. (refl, refl) }

ended-from : {X : Type 0} (m k : Meter) (o : Outcome X) → Stays m k → Ended k o → Ended m o
ended-from m k (Done x l) s h = stays-on m k l s h
ended-from m k (Fault kind at l) s h = stays-on m k l s h
ended-from m k (More l) s h = h
ended-from m k Spent s h = h

ended-bind : {X Y : Type 0} (m : Meter) (o : Outcome X) (f : X → Run Y) → Ended m o → ((x : X) (k : Meter) → Ended k (f x k)) → Ended m (o >>= f)
ended-bind m (Done x k) f h g = ended-from m k (f x k) h (g x k)
ended-bind m (Fault kind at k) f h g = h
ended-bind m (More k) f h g = absurd h
ended-bind m Spent f h g = absurd h

pub bind : (X Y : Type 0) (r : Run X) (f : X → Run Y) → Ends X r → ((x : X) → Ends Y (f x)) → Ends Y (λ m. r m >>= f)
bind X Y r f p h = record { ends = λ m. ended-bind m (r m) f (p.ends m) (λ x k. (h x).ends k) }

pub turned : (X : Type 0) (r : Run X) → Ends X r → Ends X (turn None false r)
turned X r p = record { ends = λ m. ended-from m (record m { turns = m.turns + 1 }) (r (record m { turns = m.turns + 1 })) (refl, refl) (p.ends (record m { turns = m.turns + 1 })) }

abbrev pub ending : Endings
ending = record { Rel = Ends; done = done; bind = bind; turned = turned }

-- ---- an answer, with as many ticks and the same output

abbrev pub Answered : {X : Type 0} → Meter → Outcome X → Type 0
Answered m (Done x k) = Stays m k
Answered m (Fault kind at k) = ⊥
Answered m (More k) = ⊥
Answered m Spent = ⊥

pub record Answers (X : Type 0) (r : Run X) : Type 0 where
  pub answers : (m : Meter) → Answered m (r m)

pub given : (X : Type 0) (x : X) → Answers X (Done x)
given X x = record { answers = λ m. (refl, refl) }

answered-from : {X : Type 0} (m k : Meter) (o : Outcome X) → Stays m k → Answered k o → Answered m o
answered-from m k (Done x l) s h = stays-on m k l s h
answered-from m k (Fault kind at l) s h = h
answered-from m k (More l) s h = h
answered-from m k Spent s h = h

answered-bind : {X Y : Type 0} (m : Meter) (o : Outcome X) (f : X → Run Y) → Answered m o → ((x : X) (k : Meter) → Answered k (f x k)) → Answered m (o >>= f)
answered-bind m (Done x k) f h g = answered-from m k (f x k) h (g x k)
answered-bind m (Fault kind at k) f h g = absurd h
answered-bind m (More k) f h g = absurd h
answered-bind m Spent f h g = absurd h

pub chained : (X Y : Type 0) (r : Run X) (f : X → Run Y) → Answers X r → ((x : X) → Answers Y (f x)) → Answers Y (λ m. r m >>= f)
chained X Y r f p h = record { answers = λ m. answered-bind m (r m) f (p.answers m) (λ x k. (h x).answers k) }

pub answered-turn : (X : Type 0) (r : Run X) → Answers X r → Answers X (turn None false r)
answered-turn X r p = record { answers = λ m. answered-from m (record m { turns = m.turns + 1 }) (r (record m { turns = m.turns + 1 })) (refl, refl) (p.answers (record m { turns = m.turns + 1 })) }

abbrev pub answering : Endings
answering = record { Rel = Answers; done = given; bind = chained; turned = answered-turn }

-- a fault is a no
answered-forgiven : (m : Meter) (o : Outcome Bool) → Ended m o → Answered m (forgiven o)
answered-forgiven m (Done b k) h = h
answered-forgiven m (Fault kind at k) h = h
answered-forgiven m (More k) h = absurd h
answered-forgiven m Spent h = absurd h

pub pardoned : (r : Run Bool) → Ends Bool r → Answers Bool (λ m. forgiven (r m))
pardoned r p = record { answers = λ m. answered-forgiven m (r m) (p.ends m) }
