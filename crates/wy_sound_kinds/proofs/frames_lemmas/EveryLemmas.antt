-- What holds of each answer of an evaluation, step by step.
use Rattle.std.proofs.Common.{◌≡◌, ℕ, zero, suc, Bool, true, false, Option, Some, None, ℤ, refl, sym, ap, subst}
use Rattle.wy_value.specs.Datum.{Datum, Null, Truth, Whole, Array, Record, Data, Fields}
use Rattle.wy_term.specs.declared.cond.CondKind.{CondKind}
use Rattle.wy_sound_walks.specs.wy_sem.Meter.{Meter, Outcome, Done, Fault, More, Spent, Run, ◌>>=◌, tick, spend, check, choose}
use Rattle.wy_sound_walks.specs.wy_sem.Operations.{as_number, as_truth, as_items, as_fields, needed}

-- each answer has the property; a fault or an evaluation without an end has none
abbrev pub Every : {X : Type 0} → Outcome X → (X → Type 0) → Type 0
Every (Done x m) P = P x
Every (Fault kind at m) P = Unit {0}
Every (More m) P = Unit {0}
Every Spent P = Unit {0}

pub every_bind : {X Y : Type 0} (o : Outcome X) (f : X → Run Y) (P : X → Type 0) (Q : Y → Type 0) → Every o P → ((x : X) (m : Meter) → o ≡ Done x m → P x → Every (f x m) Q) → Every (o >>= f) Q
every_bind (Done x m) f P Q h g = g x m refl h
every_bind (Fault kind at m) f P Q h g = tt
every_bind (More m) f P Q h g = tt
every_bind Spent f P Q h g = tt

pub every_map : {X : Type 0} (o : Outcome X) (P Q : X → Type 0) → Every o P → ((x : X) → P x → Q x) → Every o Q
every_map (Done x m) P Q h g = g x h
every_map (Fault kind at m) P Q h g = tt
every_map (More m) P Q h g = tt
every_map Spent P Q h g = tt

-- what is told of each answer by itself
pub every_told : {X : Type 0} (o : Outcome X) (P : X → Type 0) → ((x : X) (m : Meter) → o ≡ Done x m → P x) → Every o P
every_told (Done x m) P h = h x m refl
every_told (Fault kind at m) P h = tt
every_told (More m) P h = tt
every_told Spent P h = tt

abbrev answer_or : {X : Type 0} → X → Outcome X → X
answer_or x (Done y m) = y
answer_or x (Fault kind at m) = x
answer_or x (More m) = x
answer_or x Spent = x

abbrev IsDone : {X : Type 0} → Outcome X → Type 0
IsDone (Done y m) = Unit {0}
IsDone (Fault kind at m) = ⊥
IsDone (More m) = ⊥
IsDone Spent = ⊥

pub every_of : {X : Type 0} (o : Outcome X) (P : X → Type 0) → Every o P → (x : X) (k : Meter) → o ≡ Done x k → P x
every_of (Done y m) P h x k e = subst P (ap (answer_or y) e) h
every_of (Fault kind at m) P h x k e = absurd (subst IsDone (sym e) tt)
every_of (More m) P h x k e = absurd (subst IsDone (sym e) tt)
every_of Spent P h x k e = absurd (subst IsDone (sym e) tt)

every_tick : {X : Type 0} (left : ℕ) (r : Run X) (P : X → Type 0) → ((m : Meter) → Every (r m) P) → (m : Meter) → Every (tick left r m) P
every_tick zero r P h m = tt
every_tick (suc left) r P h m = h (record m { ticks = left })

pub every_spend : {X : Type 0} (paid : Bool) (r : Run X) (P : X → Type 0) → ((m : Meter) → Every (r m) P) → (m : Meter) → Every (spend paid r m) P
every_spend true r P h m = every_tick m.ticks r P h m
every_spend false r P h m = h m

pub every_check : {X : Type 0} (b : Bool) (kind : CondKind) (at : ℕ) (next : Run X) (m : Meter) (P : X → Type 0) → (b ≡ true → Every (next m) P) → Every (check b kind at next m) P
every_check true kind at next m P h = h refl
every_check false kind at next m P h = tt

pub every_choose : {X : Type 0} (b : Bool) (first second : Run X) (m : Meter) (P : X → Type 0) → (b ≡ true → Every (first m) P) → (b ≡ false → Every (second m) P) → Every (choose b first second m) P
every_choose true first second m P h g = h refl
every_choose false first second m P h g = g refl

-- ---- kinds of operands

pub every_number : {X : Type 0} (at : ℕ) (v : Datum) (next : ℤ → Run X) (m : Meter) (P : X → Type 0) → ((z : ℤ) → v ≡ Whole z → Every (next z m) P) → Every (as_number at v next m) P
every_number at (Whole z) next m P h = h z refl
every_number at Null next m P h = tt
every_number at (Truth b) next m P h = tt
every_number at (Array ds) next m P h = tt
every_number at (Record fs) next m P h = tt

pub every_truth : {X : Type 0} (at : ℕ) (v : Datum) (next : Bool → Run X) (m : Meter) (P : X → Type 0) → ((b : Bool) → v ≡ Truth b → Every (next b m) P) → Every (as_truth at v next m) P
every_truth at (Truth b) next m P h = h b refl
every_truth at Null next m P h = tt
every_truth at (Whole z) next m P h = tt
every_truth at (Array ds) next m P h = tt
every_truth at (Record fs) next m P h = tt

pub every_items : {X : Type 0} (at : ℕ) (v : Datum) (next : Data → Run X) (m : Meter) (P : X → Type 0) → ((ds : Data) → v ≡ Array ds → Every (next ds m) P) → Every (as_items at v next m) P
every_items at (Array ds) next m P h = h ds refl
every_items at Null next m P h = tt
every_items at (Truth b) next m P h = tt
every_items at (Whole z) next m P h = tt
every_items at (Record fs) next m P h = tt

pub every_fields : {X : Type 0} (at : ℕ) (v : Datum) (next : Fields → Run X) (m : Meter) (P : X → Type 0) → ((fs : Fields) → v ≡ Record fs → Every (next fs m) P) → Every (as_fields at v next m) P
every_fields at (Record fs) next m P h = h fs refl
every_fields at Null next m P h = tt
every_fields at (Truth b) next m P h = tt
every_fields at (Whole z) next m P h = tt
every_fields at (Array ds) next m P h = tt

pub every_needed : {X Y : Type 0} (at : ℕ) (v : Option X) (next : X → Run Y) (m : Meter) (P : Y → Type 0) → ((x : X) → v ≡ Some x → Every (next x m) P) → Every (needed at v next m) P
every_needed at None next m P h = tt
every_needed at (Some x) next m P h = h x refl
