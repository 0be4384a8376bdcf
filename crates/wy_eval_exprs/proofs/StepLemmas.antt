-- Calls one behind the other are the steps of the semantics one behind the other.
use Rattle.std.proofs.Common.{◌≡◌, ◌≢◌, ℕ, zero, suc, ◌+◌, Bool, true, false, List, [], ◌∷◌, map, Option, Some, None, Result, Ok, Err, refl, sym, ap, ◌∙◌, subst}
use Rattle.std.specs.Prelude.{IsErrAnd, cond, nat_lt}
use Rattle.wy_value.specs.Datum as datum
use Rattle.wy_value.specs.Datum.{Datum}
use Rattle.wy_value.specs.declared.value.Value.{Value}
use Rattle.wy_value.specs.declared.value.Value.TheVariants as value
use Rattle.wy_value.specs.Seen.{seen, seen_items, seen_fields, data_of}
use Rattle.wy_value.proofs.SeenLemmas.{seen_array, seen_record}
use Rattle.wy_core.specs.Types.{Ty, FieldTys, NullTy, BoolTy, IntTy, AnyTy, VoidTy, RecordTy, ArrayTy, UnionTy, InterTy, NotTy, NamedTy, NormalTy}
use Rattle.wy_core.specs.CoreTree.{Expr, NullExpr, BoolExpr, IntExpr, VarExpr, CallExpr, NegExpr, NotExpr, LenExpr, BinaryExpr, IsExpr, IndexExpr, FieldExpr, ListExpr, RepeatExpr, RecordExpr, QuantExpr}
use Rattle.wy_sem.specs.Meter.{Meter, Outcome, Done, Fault, More, Spent, Run, ◌>>=◌, tick, spend, turn}
use Rattle.wy_sem.specs.Expressions.{Store, Setting, eval}
use Rattle.wy_sem.specs.TypeTests.{Test, Questions, asked, forgiven}
use Rattle.wy_eval_exprs.specs.declared.stop.Stop.{Stop}
use Rattle.wy_eval_exprs.specs.declared.stop.Stop.TheVariants as stop
use Rattle.wy_eval_exprs.specs.Operands.{parts_of}
use Rattle.wy_eval_exprs.specs.Outcomes.{Gives, itself, stopped}
use Rattle.wy_eval_exprs.specs.Settings.{asked_by, pardoned}

-- ---- what is spent first

-- an answer that says nothing
abbrev pub done : Run (Unit {0})
done m = Done tt m

ticked : {X : Type 0} (t : ℕ) (f : Run X) (m k : Meter) → tick t done m ≡ Done tt k → tick t f m ≡ f k
ticked zero f m k h = absurd cc
ticked (suc t) f m k h = let e : record m { ticks = t } ≡ k = cc in ap f e

pub spent : {X : Type 0} (paid : Bool) (f : Run X) (m k : Meter) → spend paid done m ≡ Done tt k → spend paid f m ≡ f k
spent true f m k h = ticked m.ticks f m k h
spent false f m k h = let e : m ≡ k = cc in ap f e

ticked_stops : {X : Type 0} (t : ℕ) (f : Run X) (m k : Meter) (e : Stop) → (e ≢ stop.NoMemory → tick t done m ≡ stopped e k) → e ≢ stop.NoMemory → tick t f m ≡ stopped e k
ticked_stops zero f m k (stop.Fault kind at) h none = let g : tick zero done m ≡ Fault kind at k = h none in absurd cc
ticked_stops zero f m k stop.More h none = let g : tick zero done m ≡ More k = h none in let e : m ≡ k = cc in ap (λ x. More x) e
ticked_stops zero f m k stop.Spent h none = let g : tick zero done m ≡ Spent = h none in absurd cc
ticked_stops zero f m k stop.NoMemory h none = absurd (none refl)
ticked_stops (suc t) f m k (stop.Fault kind at) h none = let g : tick (suc t) done m ≡ Fault kind at k = h none in absurd cc
ticked_stops (suc t) f m k stop.More h none = let g : tick (suc t) done m ≡ More k = h none in absurd cc
ticked_stops (suc t) f m k stop.Spent h none = let g : tick (suc t) done m ≡ Spent = h none in absurd cc
ticked_stops (suc t) f m k stop.NoMemory h none = absurd (none refl)

pub no_stop : {X : Type 0} (m k : Meter) (e : Stop) (o : Outcome X) → (e ≢ stop.NoMemory → done m ≡ stopped e k) → e ≢ stop.NoMemory → o ≡ stopped e k
no_stop m k (stop.Fault kind at) o h none = let g : done m ≡ Fault kind at k = h none in absurd cc
no_stop m k stop.More o h none = let g : done m ≡ More k = h none in absurd cc
no_stop m k stop.Spent o h none = let g : done m ≡ Spent = h none in absurd cc
no_stop m k stop.NoMemory o h none = absurd (none refl)

pub spent_stops : {X : Type 0} (paid : Bool) (f : Run X) (m k : Meter) (e : Stop) → (e ≢ stop.NoMemory → spend paid done m ≡ stopped e k) → e ≢ stop.NoMemory → spend paid f m ≡ stopped e k
spent_stops true f m k e h none = ticked_stops m.ticks f m k e h none
spent_stops false f m k e h none = no_stop m k e (f m) h none

counted : {X : Type 0} (b : Bool) (f : Run X) (n m k : Meter) → cond b (done n) Spent ≡ Done tt k → cond b (f n) Spent ≡ f k
counted true f n m k h = let e : n ≡ k = cc in ap f e
counted false f n m k h = absurd cc

counted_stops : {X : Type 0} (b : Bool) (f : Run X) (n k : Meter) (e : Stop) → (e ≢ stop.NoMemory → cond b (done n) Spent ≡ stopped e k) → e ≢ stop.NoMemory → cond b (f n) Spent ≡ stopped e k
counted_stops true f n k e h none = no_stop n k e (f n) h none
counted_stops false f n k (stop.Fault kind at) h none = let g : cond false (done n) Spent ≡ Fault kind at k = h none in absurd cc
counted_stops false f n k stop.More h none = let g : cond false (done n) Spent ≡ More k = h none in absurd cc
counted_stops false f n k stop.Spent h none = refl
counted_stops false f n k stop.NoMemory h none = absurd (none refl)

pub turned : {X : Type 0} (limit : Option ℕ) (paid : Bool) (f : Run X) (m k : Meter) → turn limit paid done m ≡ Done tt k → turn limit paid f m ≡ f k
turned limit true f m k h = ticked m.ticks f m k h
turned None false f m k h = let e : record m { turns = m.turns + 1 } ≡ k = cc in ap f e
turned (Some limit) false f m k h = counted (nat_lt m.turns limit) f (record m { turns = m.turns + 1 }) m k h

pub turned_stops : {X : Type 0} (limit : Option ℕ) (paid : Bool) (f : Run X) (m k : Meter) (e : Stop) → (e ≢ stop.NoMemory → turn limit paid done m ≡ stopped e k) → e ≢ stop.NoMemory → turn limit paid f m ≡ stopped e k
turned_stops limit true f m k e h none = ticked_stops m.ticks f m k e h none
turned_stops None false f m k e h none = no_stop (record m { turns = m.turns + 1 }) k e (f (record m { turns = m.turns + 1 })) h none
turned_stops (Some limit) false f m k e h none = counted_stops (nat_lt m.turns limit) f (record m { turns = m.turns + 1 }) k e h none

-- ---- what gives, and what stops

pub gives_as : {X Y : Type 0} (view : Y → X) (o p : Outcome X) (r : Result Y Stop) (m : Meter) → o ≡ p → Gives view p r m → Gives view o r m
gives_as view o p r m h g = subst (λ q. Gives view q r m) (sym h) g

-- the first step gave, and the call behind it gives what comes next
pub then_gives : {X Y Z : Type 0} (view : Z → Y) (o : Outcome X) (f : X → Run Y) (x : X) (k : Meter) (r : Result Z Stop) (m : Meter) → o ≡ Done x k → Gives view (f x k) r m → Gives view (o >>= f) r m
then_gives view o f x k r m h g = subst (λ p. Gives view (p >>= f) r m) (sym h) g

pub then_is : {X Y : Type 0} (o : Outcome X) (f : X → Run Y) (x : X) (k : Meter) → o ≡ Done x k → (o >>= f) ≡ f x k
then_is o f x k h = ap (λ p. p >>= f) h

pub stays : {X Y : Type 0} (e : Stop) (k : Meter) (f : X → Run Y) → (stopped {X = X} e k >>= f) ≡ stopped {X = Y} e k
stays (stop.Fault kind at) k f = refl
stays stop.More k f = refl
stays stop.Spent k f = refl
stays stop.NoMemory k f = refl

pub then_stops_plain : {X Y : Type 0} (o : Outcome X) (f : X → Run Y) (k : Meter) (e : Stop) → (e ≢ stop.NoMemory → o ≡ stopped e k) → e ≢ stop.NoMemory → (o >>= f) ≡ stopped e k
then_stops_plain o f k e h none = ap (λ p. p >>= f) (h none) ∙ stays e k f

-- what stopped is handed on
pub refused : {X Y : Type 0} (view : Y → X) (o : Outcome X) (m : Meter) (e : Stop) (r : Result Y Stop) → (e ≢ stop.NoMemory → o ≡ stopped e m) → IsErrAnd r (λ f. f ≡ e) → Gives view o r m
refused view o m e (Ok y) h handed = absurd handed
refused view o m e (Err f) h handed = λ n. h (λ q. n (handed ∙ q)) ∙ sym (ap (λ g. stopped g m) handed)

-- the first step stopped
pub then_stops : {X Y Z : Type 0} (view : Z → Y) (o : Outcome X) (f : X → Run Y) (k : Meter) (e : Stop) (r : Result Z Stop) → (e ≢ stop.NoMemory → o ≡ stopped e k) → IsErrAnd r (λ g. g ≡ e) → Gives view (o >>= f) r k
then_stops view o f k e r h handed = refused view (o >>= f) k e r (λ none. then_stops_plain o f k e h none) handed

pub no_memory : {X Y : Type 0} (view : Y → X) (o : Outcome X) (m : Meter) (r : Result Y Stop) → IsErrAnd r (λ f. f ≡ stop.NoMemory) → Gives view o r m
no_memory view o m (Ok y) handed = absurd handed
no_memory view o m (Err f) handed = λ n. absurd (n handed)

-- a fault is a no
pub pardon_gives : (o : Outcome Bool) (answer : Result Bool Stop) (k : Meter) → Gives itself o answer k → Gives itself (forgiven o) (pardoned answer) k
pardon_gives o (Ok b) k h = ap forgiven h
pardon_gives o (Err (stop.Fault kind at)) k h = ap forgiven (h (λ q. cc))
pardon_gives o (Err stop.More) k h = λ none. ap forgiven (h none)
pardon_gives o (Err stop.Spent) k h = λ none. ap forgiven (h none)
pardon_gives o (Err stop.NoMemory) k h = λ none. absurd (none refl)

-- behind what was spent
pub after_spend : {X Y : Type 0} (view : Y → X) (paid : Bool) (f : Run X) (m k : Meter) (r : Result Y Stop) (n : Meter) → spend paid done m ≡ Done tt k → Gives view (f k) r n → Gives view (spend paid f m) r n
after_spend view paid f m k r n h g = gives_as view (spend paid f m) (f k) r n (spent paid f m k h) g

pub after_turn : {X Y : Type 0} (view : Y → X) (limit : Option ℕ) (paid : Bool) (f : Run X) (m k : Meter) (r : Result Y Stop) (n : Meter) → turn limit paid done m ≡ Done tt k → Gives view (f k) r n → Gives view (turn limit paid f m) r n
after_turn view limit paid f m k r n h g = gives_as view (turn limit paid f m) (f k) r n (turned limit paid f m k h) g

-- what a node of this form gives, the expression gives that stands for it
pub as_kind : {Y : Type 0} (w : Setting ℕ) (paid : Bool) (x y : Expr ℕ) (s : Store) (m : Meter) (view : Y → Datum) (r : Result Y Stop) (k : Meter) → x ≡ y → Gives view (eval w paid y s m) r k → Gives view (eval w paid x s m) r k
as_kind w paid x y s m view r k h g = subst (λ z. Gives view (eval w paid z s m) r k) (sym h) g

pub eval_stops : (w : Setting ℕ) (paid : Bool) (x : Expr ℕ) (s : Store) (m k : Meter) (e : Stop) → (e ≢ stop.NoMemory → spend paid done m ≡ stopped e k) → e ≢ stop.NoMemory → eval w paid x s m ≡ stopped e k
eval_stops w paid (NullExpr n) s m k e h none = spent_stops paid _ m k e h none
eval_stops w paid (BoolExpr n b) s m k e h none = spent_stops paid _ m k e h none
eval_stops w paid (IntExpr n z) s m k e h none = spent_stops paid _ m k e h none
eval_stops w paid (VarExpr n x) s m k e h none = spent_stops paid _ m k e h none
eval_stops w paid (CallExpr n f es) s m k e h none = spent_stops paid _ m k e h none
eval_stops w paid (NegExpr n a) s m k e h none = spent_stops paid _ m k e h none
eval_stops w paid (NotExpr n a) s m k e h none = spent_stops paid _ m k e h none
eval_stops w paid (LenExpr n a) s m k e h none = spent_stops paid _ m k e h none
eval_stops w paid (BinaryExpr n op a b) s m k e h none = spent_stops paid _ m k e h none
eval_stops w paid (IsExpr n a t) s m k e h none = spent_stops paid _ m k e h none
eval_stops w paid (IndexExpr n a b) s m k e h none = spent_stops paid _ m k e h none
eval_stops w paid (FieldExpr n a name) s m k e h none = spent_stops paid _ m k e h none
eval_stops w paid (ListExpr n es) s m k e h none = spent_stops paid _ m k e h none
eval_stops w paid (RepeatExpr n a b) s m k e h none = spent_stops paid _ m k e h none
eval_stops w paid (RecordExpr n fs) s m k e h none = spent_stops paid _ m k e h none
eval_stops w paid (QuantExpr n all x a b body) s m k e h none = spent_stops paid _ m k e h none

pub asked_stops : (q : Questions) (named : ℕ → Test) (d : Datum) (items : Ty → Test) (parts : FieldTys → Test) (t : Ty) (m k : Meter) (e : Stop) → (e ≢ stop.NoMemory → turn q.limit q.paid done m ≡ stopped e k) → e ≢ stop.NoMemory → asked q named d items parts t m ≡ stopped e k
asked_stops q named d items parts NullTy m k e h none = turned_stops q.limit q.paid _ m k e h none
asked_stops q named d items parts BoolTy m k e h none = turned_stops q.limit q.paid _ m k e h none
asked_stops q named d items parts IntTy m k e h none = turned_stops q.limit q.paid _ m k e h none
asked_stops q named d items parts AnyTy m k e h none = turned_stops q.limit q.paid _ m k e h none
asked_stops q named d items parts VoidTy m k e h none = turned_stops q.limit q.paid _ m k e h none
asked_stops q named d items parts (RecordTy fields) m k e h none = turned_stops q.limit q.paid _ m k e h none
asked_stops q named d items parts (ArrayTy t) m k e h none = turned_stops q.limit q.paid _ m k e h none
asked_stops q named d items parts (UnionTy t u) m k e h none = turned_stops q.limit q.paid _ m k e h none
asked_stops q named d items parts (InterTy t u) m k e h none = turned_stops q.limit q.paid _ m k e h none
asked_stops q named d items parts (NotTy t) m k e h none = turned_stops q.limit q.paid _ m k e h none
asked_stops q named d items parts (NamedTy n) m k e h none = turned_stops q.limit q.paid _ m k e h none
asked_stops q named d items parts (NormalTy union) m k e h none = turned_stops q.limit q.paid _ m k e h none

-- what a type of this form gives, the type gives that stands for it
pub as_ty : (q : Questions) (bare : ℕ) (d : Datum) (x y : Ty) (m : Meter) (r : Result Bool Stop) (k : Meter) → x ≡ y → Gives itself (asked_by q bare d y m) r k → Gives itself (asked_by q bare d x m) r k
as_ty q bare d x y m r k h g = subst (λ z. Gives itself (asked_by q bare d z m) r k) (sym h) g

-- ---- arrays and records

data-of : (vs : List Value) → data_of (map seen vs) ≡ seen_items vs
data-of [] = refl
data-of (v ∷ vs) = ap (λ d. datum.item (seen v) d) (data-of vs)

pub array_is : (vs : List Value) → seen (value.Array vs) ≡ datum.Array (data_of (map seen vs))
array_is vs = seen_array vs ∙ ap (λ d. datum.Array d) (sym (data-of vs))

fields-of : (fs : List (List ℕ × Value)) → parts_of fs ≡ seen_fields fs
fields-of [] = refl
fields-of (f ∷ fs) = ap (λ d. datum.field f.0 (seen f.1) d) (fields-of fs)

pub record_is : (fs : List (List ℕ × Value)) → seen (value.Record fs) ≡ datum.Record (parts_of fs)
record_is fs = seen_record fs ∙ ap (λ d. datum.Record d) (sym (fields-of fs))
