-- How a run follows an evaluation, one lemma for each way in which evaluations go on.
use Rattle.std.proofs.Common.{◌≡◌, ◌≤◌, ℕ, zero, suc, ◌+◌, ◌*◌, List, [], Bool, true, false, Option, Some, None, ℤ, refl, sym, ◌∙◌, ap, subst, arith}
use Rattle.std.proofs.lemmas.List.{append-nil}
use Rattle.wy_value.specs.Datum.{Datum, Null, Truth, Whole, Array, Record, Data, Fields}
use Rattle.wy_code.specs.declared.routines.Code.{Code}
use Rattle.wy_code.specs.declared.routines.Routine.{Routine}
use Rattle.wy_code.specs.declared.instructions.Instr.{Instr}
use Rattle.wy_term.specs.declared.cond.CondKind.{CondKind}
use Rattle.wy_vc_spec.specs.wy_sem.Meter.{Meter, Outcome, Done, Fault, More, Spent, Run, ◌>>=◌, tick, spend, check, choose}
use Rattle.wy_vc_spec.specs.wy_sem.Operations.{as_number, as_truth, as_items, as_fields, needed}
use Rattle.wy_vc_spec.specs.wy_sem.Expressions.{Store}
use Rattle.wy_code_spec.specs.step.Step.{State, Frame, Caller, Effect, GoesOn as goes_on, GoesTo, effect, executed, stepped, instr_at, step, after}
use Rattle.wy_gen_laws.specs.Places.{IsRoutine}
use Rattle.wy_gen_laws.specs.Follows.{IsGoing, Follows, at_place, Comes}

-- ---- steps

pub after_add : (code : Code) (m n : ℕ) (st : State) → after code (m + n) st ≡ after code n (after code m st)
after_add code zero n st = let e : zero + n ≡ n = omega arith in ap (λ (x : ℕ). after code x st) e
after_add code (suc m) n st = let e : suc m + n ≡ suc (m + n) = omega arith in ap (λ (x : ℕ). after code x st) e ∙ after_add code m n (step code st)

-- ---- one evaluation behind another

follows_from : {X : Type 0} (code : Code) (wide lo1 hi1 lo2 hi2 : ℕ) (m k : Meter) (n spent : ℕ) (st : State) (o : Outcome X) (Q : X → Meter → State → Type 0)
    → m.ticks ≡ k.ticks + spent → spent ≤ wide * n + lo1 → n ≤ 16 * spent + hi1 → Follows code wide lo2 hi2 k (after code n st) o Q → Follows code wide (lo1 + lo2) (hi1 + hi2) m st o Q
follows_from code wide lo1 hi1 lo2 hi2 m k n spent st (Done x l) Q e a b h = record {
  steps = n + h.steps;
  spent = spent + h.spent;
  total = let t = h.total in omega (arith, e, t);
  least = let t = h.least in omega (arith, a, t);
  most = let t = h.most in omega (arith, b, t);
  there = subst (λ (s : State). Q x l s) (sym (after_add code n h.steps st)) h.there;
}
follows_from code wide lo1 hi1 lo2 hi2 m k n spent st (Fault kind at l) Q e a b h = tt
follows_from code wide lo1 hi1 lo2 hi2 m k n spent st (More l) Q e a b h = record {
  steps = n + h.steps;
  least = let t = h.least in omega (arith, e, a, t);
  most = let t = h.most in omega (arith, e, b, t);
  going = subst (λ (s : State). IsGoing l.output s) (sym (after_add code n h.steps st)) h.going;
}
follows_from code wide lo1 hi1 lo2 hi2 m k n spent st Spent Q e a b h = tt

pub follows_bind : {X Y : Type 0} (code : Code) (wide lo1 hi1 lo2 hi2 : ℕ) (m : Meter) (st : State) (o : Outcome X) (f : X → Run Y) (P : X → Meter → State → Type 0) (Q : Y → Meter → State → Type 0)
    → Follows code wide lo1 hi1 m st o P → ((x : X) (k : Meter) (s : State) → k.ticks ≤ m.ticks → P x k s → Follows code wide lo2 hi2 k s (f x k) Q)
    → Follows code wide (lo1 + lo2) (hi1 + hi2) m st (o >>= f) Q
follows_bind code wide lo1 hi1 lo2 hi2 m st (Done x k) f P Q h g =
    let le : k.ticks ≤ m.ticks = let t = h.total in omega (arith, t) in
    follows_from code wide lo1 hi1 lo2 hi2 m k h.steps h.spent st (f x k) Q h.total h.least h.most (g x k (after code h.steps st) le h.there)
follows_bind code wide lo1 hi1 lo2 hi2 m st (Fault kind at k) f P Q h g = tt
follows_bind code wide lo1 hi1 lo2 hi2 m st (More k) f P Q h g = record { steps = h.steps; least = let t = h.least in omega (arith, t); most = let t = h.most in omega (arith, t); going = h.going }
follows_bind code wide lo1 hi1 lo2 hi2 m st Spent f P Q h g = tt

-- more of both
pub follows_more : {X : Type 0} (code : Code) (wide lo hi lo2 hi2 : ℕ) (m : Meter) (st : State) (o : Outcome X) (Q : X → Meter → State → Type 0) → lo ≤ lo2 → hi ≤ hi2 → Follows code wide lo hi m st o Q → Follows code wide lo2 hi2 m st o Q
follows_more code wide lo hi lo2 hi2 m st (Done x k) Q a b h = record { steps = h.steps; spent = h.spent; total = h.total; least = let t = h.least in omega (arith, t, a); most = let t = h.most in omega (arith, t, b); there = h.there }
follows_more code wide lo hi lo2 hi2 m st (Fault kind at k) Q a b h = tt
follows_more code wide lo hi lo2 hi2 m st (More k) Q a b h = record { steps = h.steps; least = let t = h.least in omega (arith, t, a); most = let t = h.most in omega (arith, t, b); going = h.going }
follows_more code wide lo hi lo2 hi2 m st Spent Q a b h = tt

-- where the first comes to an instruction, with registers of which something is known
pub follows_then : {X Y : Type 0} (code : Code) (wide lo1 hi1 lo2 hi2 lo hi : ℕ) (m : Meter) (st : State) (o : Outcome X) (f : X → Run Y) (routine at : ℕ) (callers : List Caller) (R : X → Store → Type 0) (Q : Y → Meter → State → Type 0) → lo1 + lo2 ≤ lo → hi1 + hi2 ≤ hi
    → Follows code wide lo1 hi1 m st o (Comes routine at callers R)
    → ((x : X) (k : Meter) (regs : Store) → k.ticks ≤ m.ticks → R x regs → Follows code wide lo2 hi2 k (at_place routine at regs callers k.output) (f x k) Q)
    → Follows code wide lo hi m st (o >>= f) Q
follows_then code wide lo1 hi1 lo2 hi2 lo hi m st o f routine at callers R Q a b h g =
    follows_more code wide (lo1 + lo2) (hi1 + hi2) lo hi m st (o >>= f) Q a b
    (follows_bind code wide lo1 hi1 lo2 hi2 m st o f (Comes routine at callers R) Q h
    (λ x k s le c. subst (λ (t : State). Follows code wide lo2 hi2 k t (f x k) Q) (sym c.is) (g x k c.regs le c.ok)))

-- another property
pub follows_map : {X : Type 0} (code : Code) (wide lo hi : ℕ) (m : Meter) (st : State) (o : Outcome X) (P Q : X → Meter → State → Type 0) → Follows code wide lo hi m st o P → ((x : X) (k : Meter) (s : State) → P x k s → Q x k s) → Follows code wide lo hi m st o Q
follows_map code wide lo hi m st (Done x k) P Q h g = record { steps = h.steps; spent = h.spent; total = h.total; least = h.least; most = h.most; there = g x k (after code h.steps st) h.there }
follows_map code wide lo hi m st (Fault kind at k) P Q h g = tt
follows_map code wide lo hi m st (More k) P Q h g = h
follows_map code wide lo hi m st Spent P Q h g = tt

-- ---- ticks

-- a tick was spent, and allows 16 steps
follows_tick : {X : Type 0} (code : Code) (wide lo hi : ℕ) (m k : Meter) (st : State) (o : Outcome X) (Q : X → Meter → State → Type 0) → m.ticks ≡ suc k.ticks → Follows code wide lo (hi + 16) k st o Q → Follows code wide (suc lo) hi m st o Q
follows_tick code wide lo hi m k st (Done x l) Q e h = record {
  steps = h.steps;
  spent = suc h.spent;
  total = let t = h.total in omega (arith, t, e);
  least = let t = h.least in omega (arith, t);
  most = let t = h.most in omega (arith, t);
  there = h.there;
}
follows_tick code wide lo hi m k st (Fault kind at l) Q e h = tt
follows_tick code wide lo hi m k st (More l) Q e h = record { steps = h.steps; least = let t = h.least in omega (arith, t, e); most = let t = h.most in omega (arith, t, e); going = h.going }
follows_tick code wide lo hi m k st Spent Q e h = tt

pub follows_spend : {X : Type 0} (code : Code) (wide lo hi : ℕ) (m : Meter) (st : State) (next : Run X) (Q : X → Meter → State → Type 0) → IsGoing m.output st
    → ((t : ℕ) → m.ticks ≡ suc t → Follows code wide lo (hi + 16) (record m { ticks = t }) st (next (record m { ticks = t })) Q) → Follows code wide (suc lo) hi m st (spend true next m) Q
follows_spend {X} code wide lo hi m st next Q go h = by m.ticks refl
  where
    by : (t : ℕ) → m.ticks ≡ t → Follows code wide (suc lo) hi m st (tick t next m) Q
    by zero e = record { steps = 0; least = omega (arith, e); most = omega arith; going = go }
    by (suc t) e = follows_tick code wide lo hi m (record m { ticks = t }) st (next (record m { ticks = t })) Q e (h t e)

-- ---- choices

pub follows_number : {X : Type 0} (code : Code) (wide lo hi : ℕ) (m : Meter) (st : State) (at : ℕ) (v : Datum) (f : ℤ → Run X) (Q : X → Meter → State → Type 0) → ((z : ℤ) → v ≡ Whole z → Follows code wide lo hi m st (f z m) Q) → Follows code wide lo hi m st (as_number at v f m) Q
follows_number code wide lo hi m st at (Whole z) f Q h = h z refl
follows_number code wide lo hi m st at Null f Q h = tt
follows_number code wide lo hi m st at (Truth b) f Q h = tt
follows_number code wide lo hi m st at (Array ds) f Q h = tt
follows_number code wide lo hi m st at (Record fs) f Q h = tt

pub follows_truth : {X : Type 0} (code : Code) (wide lo hi : ℕ) (m : Meter) (st : State) (at : ℕ) (v : Datum) (f : Bool → Run X) (Q : X → Meter → State → Type 0) → ((b : Bool) → v ≡ Truth b → Follows code wide lo hi m st (f b m) Q) → Follows code wide lo hi m st (as_truth at v f m) Q
follows_truth code wide lo hi m st at (Truth b) f Q h = h b refl
follows_truth code wide lo hi m st at Null f Q h = tt
follows_truth code wide lo hi m st at (Whole z) f Q h = tt
follows_truth code wide lo hi m st at (Array ds) f Q h = tt
follows_truth code wide lo hi m st at (Record fs) f Q h = tt

pub follows_items : {X : Type 0} (code : Code) (wide lo hi : ℕ) (m : Meter) (st : State) (at : ℕ) (v : Datum) (f : Data → Run X) (Q : X → Meter → State → Type 0) → ((ds : Data) → v ≡ Array ds → Follows code wide lo hi m st (f ds m) Q) → Follows code wide lo hi m st (as_items at v f m) Q
follows_items code wide lo hi m st at (Array ds) f Q h = h ds refl
follows_items code wide lo hi m st at Null f Q h = tt
follows_items code wide lo hi m st at (Truth b) f Q h = tt
follows_items code wide lo hi m st at (Whole z) f Q h = tt
follows_items code wide lo hi m st at (Record fs) f Q h = tt

pub follows_fields : {X : Type 0} (code : Code) (wide lo hi : ℕ) (m : Meter) (st : State) (at : ℕ) (v : Datum) (f : Fields → Run X) (Q : X → Meter → State → Type 0) → ((fs : Fields) → v ≡ Record fs → Follows code wide lo hi m st (f fs m) Q) → Follows code wide lo hi m st (as_fields at v f m) Q
follows_fields code wide lo hi m st at (Record fs) f Q h = h fs refl
follows_fields code wide lo hi m st at Null f Q h = tt
follows_fields code wide lo hi m st at (Truth b) f Q h = tt
follows_fields code wide lo hi m st at (Whole z) f Q h = tt
follows_fields code wide lo hi m st at (Array ds) f Q h = tt

pub follows_needed : {X Y : Type 0} (code : Code) (wide lo hi : ℕ) (m : Meter) (st : State) (at : ℕ) (o : Option X) (f : X → Run Y) (Q : Y → Meter → State → Type 0) → ((x : X) → o ≡ Some x → Follows code wide lo hi m st (f x m) Q) → Follows code wide lo hi m st (needed at o f m) Q
follows_needed code wide lo hi m st at None f Q h = tt
follows_needed code wide lo hi m st at (Some x) f Q h = h x refl

pub follows_check : {X : Type 0} (code : Code) (wide lo hi : ℕ) (m : Meter) (st : State) (b : Bool) (kind : CondKind) (at : ℕ) (f : Run X) (Q : X → Meter → State → Type 0) → (b ≡ true → Follows code wide lo hi m st (f m) Q) → Follows code wide lo hi m st (check b kind at f m) Q
follows_check code wide lo hi m st true kind at f Q h = h refl
follows_check code wide lo hi m st false kind at f Q h = tt

pub follows_choose : {X : Type 0} (code : Code) (wide lo hi : ℕ) (m : Meter) (st : State) (b : Bool) (f g : Run X) (Q : X → Meter → State → Type 0) → (b ≡ true → Follows code wide lo hi m st (f m) Q) → (b ≡ false → Follows code wide lo hi m st (g m) Q) → Follows code wide lo hi m st (choose b f g m) Q
follows_choose code wide lo hi m st true f g Q h k = h refl
follows_choose code wide lo hi m st false f g Q h k = k refl

-- ---- instructions

module _ (code : Code) (routine : ℕ) (r : Routine) (there : IsRoutine code routine r) where
  -- the step at an instruction
  pub one_step : (at : ℕ) (i : Instr) (regs : Store) (callers : List Caller) (output : List ℕ) → instr_at (Some r) at ≡ Some i
      → step code (at_place routine at regs callers output) ≡ stepped code (record { routine = routine; at = at; registers = regs }) callers output (effect code.shapes i regs)
  one_step at i regs callers output stands =
      let fr : Frame = record { routine = routine; at = at; registers = regs } in
      ap (λ (o : Option Routine). executed code fr callers output (instr_at o at)) there.is ∙ ap (λ (o : Option Instr). executed code fr callers output o) stands

  -- an instruction that goes on behind and prints nothing
  pub quiet_step : (at : ℕ) (i : Instr) (regs after_it : Store) (callers : List Caller) (output : List ℕ) → instr_at (Some r) at ≡ Some i → effect code.shapes i regs ≡ goes_on after_it []
      → step code (at_place routine at regs callers output) ≡ at_place routine (at + 1) after_it callers output
  quiet_step at i regs after_it callers output stands does =
      let fr : Frame = record { routine = routine; at = at; registers = regs } in
      one_step at i regs callers output stands ∙ ap (λ (e : Effect). stepped code fr callers output e) does ∙ ap (λ (w : List ℕ). at_place routine (at + 1) after_it callers w) (append-nil output)

  -- an instruction that goes elsewhere
  pub far_step : (at to : ℕ) (i : Instr) (regs : Store) (callers : List Caller) (output : List ℕ) → instr_at (Some r) at ≡ Some i → effect code.shapes i regs ≡ GoesTo to
      → step code (at_place routine at regs callers output) ≡ at_place routine to regs callers output
  far_step at to i regs callers output stands does =
      let fr : Frame = record { routine = routine; at = at; registers = regs } in
      one_step at i regs callers output stands ∙ ap (λ (e : Effect). stepped code fr callers output e) does

-- a step first
pub follows_step : {X : Type 0} (code : Code) (wide lo hi lo2 hi2 : ℕ) (m : Meter) (st st2 : State) (o : Outcome X) (Q : X → Meter → State → Type 0) → step code st ≡ st2 → lo2 ≤ lo + wide → hi2 + 1 ≤ hi → Follows code wide lo2 hi2 m st2 o Q → Follows code wide lo hi m st o Q
follows_step code wide lo hi lo2 hi2 m st st2 (Done x k) Q e a b h = record {
  steps = suc h.steps;
  spent = h.spent;
  total = h.total;
  least = let t = h.least in omega (arith, t, a);
  most = let t = h.most in omega (arith, t, b);
  there = subst (λ (s : State). Q x k (after code h.steps s)) (sym e) h.there;
}
follows_step code wide lo hi lo2 hi2 m st st2 (Fault kind at k) Q e a b h = tt
follows_step code wide lo hi lo2 hi2 m st st2 (More k) Q e a b h = record {
  steps = suc h.steps;
  least = let t = h.least in omega (arith, t, a);
  most = let t = h.most in omega (arith, t, b);
  going = subst (λ (s : State). IsGoing k.output (after code h.steps s)) (sym e) h.going;
}
follows_step code wide lo hi lo2 hi2 m st st2 Spent Q e a b h = tt

-- an answer, at once
pub follows_end : {X : Type 0} (code : Code) (wide lo hi : ℕ) (m : Meter) (st : State) (x : X) (Q : X → Meter → State → Type 0) → Q x m st → Follows code wide lo hi m st (Done x m) Q
follows_end code wide lo hi m st x Q q = record { steps = 0; spent = 0; total = omega arith; least = omega arith; most = omega arith; there = q }

after_last : (code : Code) (n : ℕ) (st : State) → after code (n + 1) st ≡ step code (after code n st)
after_last code n st = after_add code n 1 st

-- a step last, which goes to another instruction
pub follows_last : {X : Type 0} (code : Code) (wide lo hi : ℕ) (m : Meter) (st : State) (o : Outcome X) (routine at to : ℕ) (callers : List Caller) (R : X → Store → Type 0)
    → ((regs : Store) (output : List ℕ) → step code (at_place routine at regs callers output) ≡ at_place routine to regs callers output)
    → Follows code wide lo hi m st o (Comes routine at callers R) → Follows code wide lo (hi + 1) m st o (Comes routine to callers R)
follows_last code wide lo hi m st (Done x k) routine at to callers R goes h = record {
  steps = h.steps + 1;
  spent = h.spent;
  total = h.total;
  least = let t = h.least in omega (arith, t);
  most = let t = h.most in omega (arith, t);
  there = record { regs = h.there.regs; is = after_last code h.steps st ∙ ap (λ (s : State). step code s) h.there.is ∙ goes h.there.regs k.output; ok = h.there.ok };
}
follows_last code wide lo hi m st (Fault kind at2 k) routine at to callers R goes h = tt
follows_last code wide lo hi m st (More k) routine at to callers R goes h = record { steps = h.steps; least = h.least; most = let t = h.most in omega (arith, t); going = h.going }
follows_last code wide lo hi m st Spent routine at to callers R goes h = tt

-- the same place, said otherwise
pub follows_at : {X : Type 0} (code : Code) (wide lo hi : ℕ) (m : Meter) (st : State) (o : Outcome X) (routine at to : ℕ) (callers : List Caller) (R : X → Store → Type 0) → at ≡ to
    → Follows code wide lo hi m st o (Comes routine at callers R) → Follows code wide lo hi m st o (Comes routine to callers R)
follows_at code wide lo hi m st o routine at to callers R e h = subst (λ (p : ℕ). Follows code wide lo hi m st o (Comes routine p callers R)) e h
