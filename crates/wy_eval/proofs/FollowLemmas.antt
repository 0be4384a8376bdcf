-- A value that was given its type, and what follows; clauses that held, and what follows.
use Rattle.std.proofs.Common.{◌≡◌, ◌≢◌, ℕ, Bool, true, false, List, [], ◌∷◌, refl, ap, ◌∙◌}
use Rattle.wy_value.specs.Datum.{Datum}
use Rattle.wy_core.specs.CoreTree.{Expr}
use Rattle.wy_core.specs.Types.{Ty}
use Rattle.wy_term.specs.declared.cond.CondKind.{CondKind}
use Rattle.wy_term.specs.declared.cond.CondKind.TheVariants.{Member}
use Rattle.wy_sem.specs.Meter.{Meter, Outcome, Done, Fault, More, Spent, Run, ◌>>=◌, check}
use Rattle.wy_sem.specs.Expressions.{Setting, Store, clauses, holds}
use Rattle.wy_sem.specs.Statements.{given}
use Rattle.wy_sem.specs.TypeTests.{Test}
use Rattle.wy_eval_exprs.specs.declared.stop.Stop.{Stop}
use Rattle.wy_eval_exprs.specs.declared.stop.Stop.TheVariants as stop
use Rattle.wy_eval_exprs.specs.Outcomes.{stopped}
use Rattle.wy_eval_exprs.proofs.StepLemmas.{done, no_stop}

pub checked : {X : Type 0} (b : Bool) (kind : CondKind) (at : ℕ) (next : Run X) (m k : Meter) → check b kind at done m ≡ Done tt k → check b kind at next m ≡ next k
checked true kind at next m k h = let e : m ≡ k = cc in ap next e
checked false kind at next m k h = absurd cc

-- a run that stopped, whatever it was to answer
abbrev pub as_any : {X Y : Type 0} → Outcome X → Outcome Y
as_any (Done x m) = Spent
as_any (Fault kind at m) = Fault kind at m
as_any (More m) = More m
as_any Spent = Spent

pub any_stopped : (X Y : Type 0) (e : Stop) (k : Meter) → as_any {X = X} {Y = Y} (stopped e k) ≡ stopped e k
any_stopped X Y (stop.Fault kind at) k = refl
any_stopped X Y stop.More k = refl
any_stopped X Y stop.Spent k = refl
any_stopped X Y stop.NoMemory k = refl

pub checked_stops : {X : Type 0} (b : Bool) (kind : CondKind) (at : ℕ) (next : Run X) (m k : Meter) (e : Stop) → (e ≢ stop.NoMemory → check b kind at done m ≡ stopped e k) → e ≢ stop.NoMemory → check b kind at next m ≡ stopped e k
checked_stops true kind at next m k e h none = no_stop m k e (next m) h none
checked_stops false kind at next m k e h none = ap as_any (h none) ∙ any_stopped _ _ e k

-- ---- given

given_by : {X : Type 0} (o : Outcome Bool) (at : ℕ) (next : Run X) (k : Meter) → (o >>= (λ b. check b Member at done)) ≡ Done tt k → (o >>= (λ b. check b Member at next)) ≡ next k
given_by (Done b m) at next k h = checked b Member at next m k h
given_by (Fault kind place m) at next k h = absurd cc
given_by (More m) at next k h = absurd cc
given_by Spent at next k h = absurd cc

given_stops_by : {X : Type 0} (o : Outcome Bool) (at : ℕ) (next : Run X) (k : Meter) (e : Stop) → (e ≢ stop.NoMemory → (o >>= (λ b. check b Member at done)) ≡ stopped e k) → e ≢ stop.NoMemory → (o >>= (λ b. check b Member at next)) ≡ stopped e k
given_stops_by (Done b m) at next k e h none = checked_stops b Member at next m k e h none
given_stops_by (Fault kind place m) at next k e h none = ap as_any (h none) ∙ any_stopped _ _ e k
given_stops_by (More m) at next k e h none = ap as_any (h none) ∙ any_stopped _ _ e k
given_stops_by Spent at next k e h none = ap as_any (h none) ∙ any_stopped _ _ e k

pub given_then : {X : Type 0} (member : Ty → Datum → Test) (at : ℕ) (t : Ty) (v : Datum) (next : Run X) (m k : Meter) → given member at t v done m ≡ Done tt k → given member at t v next m ≡ next k
given_then member at t v next m k h = given_by (member t v m) at next k h

pub given_stops : {X : Type 0} (member : Ty → Datum → Test) (at : ℕ) (t : Ty) (v : Datum) (next : Run X) (m k : Meter) (e : Stop) → (e ≢ stop.NoMemory → given member at t v done m ≡ stopped e k) → e ≢ stop.NoMemory → given member at t v next m ≡ stopped e k
given_stops member at t v next m k e h none = given_stops_by (member t v m) at next k e h none

-- ---- clauses

clause_then : {X : Type 0} (kind : CondKind) (at : ℕ) (rest : Run (Unit {0})) (after : Run X) (next : Run X) (k : Meter) → ((m : Meter) → rest m ≡ Done tt k → after m ≡ next k) → (o : Outcome Bool) → (o >>= (λ b. check b kind at rest)) ≡ Done tt k
    → (o >>= (λ b. check b kind at after)) ≡ next k
clause_then kind at rest after next k more (Done true m) h = more m h
clause_then kind at rest after next k more (Done false m) h = absurd cc
clause_then kind at rest after next k more (Fault other place m) h = absurd cc
clause_then kind at rest after next k more (More m) h = absurd cc
clause_then kind at rest after next k more Spent h = absurd cc

pub clauses_then : {X : Type 0} (w : Setting ℕ) (kind : CondKind) (at : ℕ) (es : List (Expr ℕ)) (s : Store) (next : Run X) (m k : Meter) → clauses w kind at es s done m ≡ Done tt k → clauses w kind at es s next m ≡ next k
clauses_then w kind at [] s next m k h = let e : m ≡ k = cc in ap next e
clauses_then w kind at (e ∷ es) s next m k h =
    clause_then kind at (clauses w kind at es s done) (clauses w kind at es s next) next k (λ n g. clauses_then w kind at es s next n k g) (holds w e s m) h

clause_stops : {X : Type 0} (kind : CondKind) (at : ℕ) (rest : Run (Unit {0})) (after : Run X) (k : Meter) (f : Stop) → ((m : Meter) → (f ≢ stop.NoMemory → rest m ≡ stopped f k) → f ≢ stop.NoMemory → after m ≡ stopped f k) → (o : Outcome Bool)
    → (f ≢ stop.NoMemory → (o >>= (λ b. check b kind at rest)) ≡ stopped f k) → f ≢ stop.NoMemory → (o >>= (λ b. check b kind at after)) ≡ stopped f k
clause_stops kind at rest after k f more (Done true m) h none = more m h none
clause_stops kind at rest after k f more (Done false m) h none = ap as_any (h none) ∙ any_stopped _ _ f k
clause_stops kind at rest after k f more (Fault other place m) h none = ap as_any (h none) ∙ any_stopped _ _ f k
clause_stops kind at rest after k f more (More m) h none = ap as_any (h none) ∙ any_stopped _ _ f k
clause_stops kind at rest after k f more Spent h none = ap as_any (h none) ∙ any_stopped _ _ f k

pub clauses_stops : {X : Type 0} (w : Setting ℕ) (kind : CondKind) (at : ℕ) (es : List (Expr ℕ)) (s : Store) (next : Run X) (m k : Meter) (f : Stop) → (f ≢ stop.NoMemory → clauses w kind at es s done m ≡ stopped f k) → f ≢ stop.NoMemory → clauses w kind at es s next m ≡ stopped f k
clauses_stops w kind at [] s next m k f h none = no_stop m k f (next m) h none
clauses_stops w kind at (e ∷ es) s next m k f h none =
    clause_stops kind at (clauses w kind at es s done) (clauses w kind at es s next) k f (λ n g q. clauses_stops w kind at es s next n k f g q) (holds w e s m) h none

-- ---- the same clauses, whatever calls do

pub clauses_same : {X : Type 0} (w v : Setting ℕ) (kind : CondKind) (at : ℕ) (es : List (Expr ℕ)) (s : Store) (next : Run X) (m : Meter) → ((e : Expr ℕ) (n : Meter) → holds w e s n ≡ holds v e s n) → clauses w kind at es s next m ≡ clauses v kind at es s next m
clauses_same w v kind at [] s next m h = refl
clauses_same w v kind at (e ∷ es) s next m h =
    ap (λ o. o >>= (λ b. check b kind at (clauses w kind at es s next))) (h e m)
    ∙ bind_same (holds v e s m) kind at (clauses w kind at es s next) (clauses v kind at es s next) (λ n. clauses_same w v kind at es s next n h)
  where
    bind_same : {X : Type 0} (o : Outcome Bool) (kind : CondKind) (at : ℕ) (f g : Run X) → ((n : Meter) → f n ≡ g n) → (o >>= (λ b. check b kind at f)) ≡ (o >>= (λ b. check b kind at g))
    bind_same (Done true m) kind at f g same = same m
    bind_same (Done false m) kind at f g same = refl
    bind_same (Fault other place m) kind at f g same = refl
    bind_same (More m) kind at f g same = refl
    bind_same Spent kind at f g same = refl
