-- The code of calls: a routine in a frame of its own, and the two that print.
use Rattle.std.proofs.Common.{◌≡◌, ◌<◌, ◌≤◌, ℕ, zero, suc, ◌+◌, ◌*◌, List, [], ◌∷◌, ◌++◌, length, Bool, true, false, cond, nat_lt, Option, Some, None, ℤ, refl, sym, ◌∙◌, ap, subst, arith, length-append}
use Rattle.std.specs.Prelude.{slice_get}
use Rattle.std.specs.Fmt.{signed_decimal}
use Rattle.wy_value.specs.Datum.{Datum, Null, Truth, Whole, Array, Record, Data, no_items, item}
use Rattle.wy_core.specs.CoreTree.{Exprs}
use Rattle.wy_term.specs.declared.cond.CondKind.TheVariants as kind
use Rattle.wy_core.specs.formed.Offers.{Offers}
use Rattle.wy_core.specs.formed.Bound.{Scope, BoundExprs}
use Rattle.wy_core.specs.formed.Sizes.{sizes}
use Rattle.wy_code_spec.specs.wy_live.Sets.{Variables}
use Rattle.wy_code_spec.specs.wy_live.Walks.{before_all}
use Rattle.wy_code_spec.specs.wy_live.declared.walk.Ends.{Ends}
use Rattle.wy_code.specs.declared.instructions.Scalar.TheVariants as scalar
use Rattle.wy_code.specs.declared.instructions.Instr.{Instr}
use Rattle.wy_code.specs.declared.instructions.Instr.TheVariants as instr
use Rattle.wy_code.specs.declared.routines.Code.{Code}
use Rattle.wy_code.specs.declared.routines.Routine.{Routine}
use Rattle.wy_code_spec.specs.declared.tables.context.Context.{Context}
use Rattle.wy_code_spec.specs.declared.tables.targets.Target.{Target}
use Rattle.wy_code_spec.specs.declared.tables.targets.Target.TheVariants.{Declared, Prints, PrintsInt, Nothing}
use Rattle.wy_code_spec.specs.tables.Tables.{target}
use Rattle.wy_code.specs.pieces.Steps.{registers_from}
use Rattle.wy_code_spec.specs.compiled.Expressions as expressions
use Rattle.wy_code_spec.specs.compiled.Expressions.{codes, count_of}
use Rattle.wy_code_spec.specs.compiled.Statements as statements
use Rattle.wy_code_spec.specs.compiled.Statements.{call_step, release_where}
use Rattle.wy_vc_spec.specs.wy_sem.kept.Kept.{SlotProper, StoreProper, ListProper}
use Rattle.wy_vc_spec.specs.wy_sem.Meter.{Meter, Outcome, Done, Fault, More, Spent, Run, ◌>>=◌, tick, spend, count, check}
use Rattle.wy_vc_spec.specs.wy_sem.Operations as sem
use Rattle.wy_vc_spec.specs.wy_sem.Operations.{or_null, nat_of}
use Rattle.wy_vc_spec.specs.wy_sem.Expressions.{Store, slot, put, Setting, eval_all}
use Rattle.wy_vc_spec.specs.wy_sem.Statements.{Exit, Went}
use Rattle.wy_vc_spec.specs.wy_sem.Evaluation.{is_ascii, text_of, printed, print_call, print_int_call}
use Rattle.wy_code_spec.specs.step.Step as machine
use Rattle.wy_code_spec.specs.step.Step.{State, Runs, Caller, Effect, GoesOn, Calls, effect, stepped, as_bytes, where_so, held, instr_at, entered, step, after, moved_all}
use Rattle.wy_gen_laws.specs.Places.{StandAt, IsRoutine}
use Rattle.wy_gen_laws.specs.Follows.{Follows, IsGoing, at_place, Comes}
use Rattle.wy_gen_laws.specs.Registers.{Live, Hold}
use Rattle.wy_gen_laws.proofs.PlaceLemmas.{stand_front, stand_back}
use Rattle.wy_gen_laws.proofs.StoreLemmas.{put_here, put_other, put_size}
use Rattle.wy_gen_laws.proofs.FollowLemmas.{one_step, quiet_step, follows_map, follows_then}
use Rattle.wy_gen_laws.proofs.InstructionLemmas.{emptied, emptied_below, emptied_size, moved_does}
use Rattle.wy_gen_laws.specs.expressions.Standing.{with_table, AreKnown}
use Rattle.wy_gen_laws.specs.expressions.Rests.{Called, CallsFollow}
use Rattle.wy_gen_laws.specs.expressions.Evaluated.{AreEvaluated, GotAll, Anything}
use Rattle.wy_gen_laws.specs.statements.Led.{Kept, Left, Places, Leads, CallsLead}
use Rattle.wy_gen_laws.proofs.statements_lemmas.StepLemmas.{then_on, then_paid}
use Rattle.wy_gen_laws.proofs.statements_lemmas.ValueLemmas.{target_room, arrives}

-- ---- texts

-- a text that the semantics reads is one that the machine reads; it spends no tick and prints nothing
abbrev IsText : Data → Meter → Outcome (List ℕ) → Type 0
IsText ds m (Done bytes k) = ((k.ticks ≡ m.ticks) × (k.output ≡ m.output)) × ((next : List ℕ → Effect) → as_bytes ds next ≡ next bytes)
IsText ds m (Fault why at k) = Unit {0}
IsText ds m (More k) = ⊥
IsText ds m Spent = Unit {0}

counted : (limit : Option ℕ) (next : Run (List ℕ)) (m : Meter) (P : Outcome (List ℕ) → Type 0) → P Spent → P (next (record m { turns = m.turns + 1 })) → P (count limit next m)
counted None next m P spent h = h
counted (Some l) next m P spent h = by (nat_lt m.turns l)
  where
    by : (b : Bool) → P (cond b (next (record m { turns = m.turns + 1 })) Spent)
    by true = h
    by false = spent

first_byte : (z : ℤ) (ds : Data) (next : List ℕ → Effect) → is_ascii z ≡ true → as_bytes (item (Whole z) ds) next ≡ as_bytes ds (λ bytes. next (nat_of z ∷ bytes))
first_byte z ds next e = rw e refl

one_byte : (z : ℤ) (ds : Data) (m k : Meter) (o : Outcome (List ℕ)) → k.ticks ≡ m.ticks → k.output ≡ m.output → is_ascii z ≡ true → IsText ds k o → IsText (item (Whole z) ds) m (o >>= (λ bytes. Done (nat_of z ∷ bytes)))
one_byte z ds m k (Done bytes l) e g ascii h = ((h.0.0 ∙ e, h.0.1 ∙ g), λ next. first_byte z ds next ascii ∙ h.1 (λ bs. next (nat_of z ∷ bs)))
one_byte z ds m k (Fault why at l) e g ascii h = tt
one_byte z ds m k (More l) e g ascii h = h
one_byte z ds m k Spent e g ascii h = tt

text_is : (limit : Option ℕ) (at : ℕ) (ds : Data) (m : Meter) → IsText ds m (text_of limit at ds m)
text_is limit at no_items m = ((refl, refl), λ next. refl)
text_is limit at (item d ds) m = counted limit (sem.as_number at d (λ z. check (is_ascii z) kind.Requires at (λ k. text_of limit at ds k >>= (λ bytes. Done (nat_of z ∷ bytes))))) m (IsText (item d ds) m) tt
    (first d (record m { turns = m.turns + 1 }) (text_is limit at ds (record m { turns = m.turns + 1 })) refl refl)
  where
    first : (d : Datum) (k : Meter) → IsText ds k (text_of limit at ds k) → k.ticks ≡ m.ticks → k.output ≡ m.output
        → IsText (item d ds) m (sem.as_number at d (λ z. check (is_ascii z) kind.Requires at (λ i. text_of limit at ds i >>= (λ bytes. Done (nat_of z ∷ bytes)))) k)
    first Null k h e g = tt
    first (Truth b) k h e g = tt
    first (Array es) k h e g = tt
    first (Record fs) k h e g = tt
    first (Whole z) k h e g = by (is_ascii z) refl
      where
        by : (b : Bool) → is_ascii z ≡ b → IsText (item (Whole z) ds) m (check b kind.Requires at (λ i. text_of limit at ds i >>= (λ bytes. Done (nat_of z ∷ bytes))) k)
        by true ascii = one_byte z ds m k (text_of limit at ds k) e g ascii h
        by false ascii = tt

-- ---- instructions

print_does : (code : Code) (s : Store) (a : ℕ) (ds : Data) (bytes : List ℕ) → slot s a ≡ Some (Array ds) → ((next : List ℕ → Effect) → as_bytes ds next ≡ next bytes) → effect code.shapes (instr.Print a) s ≡ GoesOn s bytes
print_does code s a ds bytes e f = ap (λ (o : Option Datum). machine.there o (λ v. machine.as_items v (λ es. as_bytes es (λ bs. GoesOn s bs)))) e ∙ f (λ bs. GoesOn s bs)

print_int_does : (code : Code) (s : Store) (a : ℕ) (z : ℤ) → slot s a ≡ Some (Whole z) → effect code.shapes (instr.PrintInt a) s ≡ GoesOn s (signed_decimal z)
print_int_does code s a z e = rw e refl

call_does : (code : Code) (s : Store) (d g count : ℕ) (vs : List Datum) → length vs ≡ count → Hold s d vs → effect code.shapes (instr.Call d g (registers_from d count)) s ≡ Calls d g vs (emptied s d (length vs))
call_does code s d g count vs many h = ap (λ (k : ℕ). effect code.shapes (instr.Call d g (registers_from d k)) s) (sym many) ∙ moved_does s d vs (λ us rest. Calls d g us rest) h

-- ---- what prints

-- a run that ends at once, behind so many steps, with nothing but what it prints
abbrev Quick : Code → ℕ → State → Outcome (Option Datum) → (Option Datum → Meter → State → Type 0) → Meter → Type 0
Quick code n st (Done v k) Q m = (k.ticks ≡ m.ticks) × Q v k (after code n st)
Quick code n st (Fault why at k) Q m = Unit {0}
Quick code n st (More k) Q m = ⊥
Quick code n st Spent Q m = Unit {0}

quick_follows : (code : Code) (wide n : ℕ) (m k : Meter) (st : State) (o : Outcome (Option Datum)) (Q : Option Datum → Meter → State → Type 0) → 1 ≤ wide * n → n ≤ 16 → suc k.ticks ≡ m.ticks → Quick code n st o Q k → Follows code wide 0 0 m st o Q
quick_follows code wide n m k st (Done v l) Q some few e h = record { steps = n; spent = 1; total = let t = h.0 in omega (arith, t, e); least = omega (arith, some); most = omega (arith, few); there = h.1 }
quick_follows code wide n m k st (Fault why at l) Q some few e h = tt
quick_follows code wide n m k st (More l) Q some few e h = absurd h
quick_follows code wide n m k st Spent Q some few e h = tt

-- a tick, and then such a run
quick_spent : (code : Code) (wide n : ℕ) (m : Meter) (st : State) (next : Run (Option Datum)) (Q : Option Datum → Meter → State → Type 0) → 1 ≤ wide * n → n ≤ 16 → IsGoing m.output st
    → ((k : Meter) → k.output ≡ m.output → suc k.ticks ≡ m.ticks → Quick code n st (next k) Q k) → Follows code wide 0 0 m st (spend true next m) Q
quick_spent code wide n m st next Q some few going h = by m.ticks refl
  where
    by : (t : ℕ) → m.ticks ≡ t → Follows code wide 0 0 m st (tick t next m) Q
    by zero e = record { steps = 0; least = omega (arith, e); most = omega arith; going = going }
    by (suc t) e = quick_follows code wide n m (record m { ticks = t }) st (next (record m { ticks = t })) Q some few (sym e) (h (record m { ticks = t }) refl (sym e))

-- a step more
quick_more : (code : Code) (st : State) (o : Outcome (Option Datum)) (P Q : Option Datum → Meter → State → Type 0) (m : Meter) → ((v : Option Datum) (k : Meter) (s : State) → P v k s → Q v k (step code s)) → Quick code 1 st o P m → Quick code 2 st o Q m
quick_more code st (Done v k) P Q m g h = (h.0, g v k (step code st) h.1)
quick_more code st (Fault why at k) P Q m g h = tt
quick_more code st (More k) P Q m g h = h
quick_more code st Spent P Q m g h = tt

-- ---- calls of routines

-- a tick and a step, and then the run of the routine
call_follows : (code : Code) (wide low : ℕ) (m k : Meter) (st st2 : State) (o : Outcome (Option Datum)) (Q : Option Datum → Meter → State → Type 0) → m.ticks ≡ suc k.ticks → low < wide → step code st ≡ st2 → Follows code wide low 4 k st2 o Q → Follows code wide 0 0 m st o Q
call_follows code wide low m k st st2 (Done v l) Q e less goes h = record {
  steps = suc h.steps;
  spent = suc h.spent;
  total = let t = h.total in omega (arith, t, e);
  least = let t = h.least in omega (arith, t, less);
  most = let t = h.most in omega (arith, t);
  there = subst (λ (s : State). Q v l (after code h.steps s)) (sym goes) h.there;
}
call_follows code wide low m k st st2 (Fault why at l) Q e less goes h = tt
call_follows code wide low m k st st2 (More l) Q e less goes h = record {
  steps = suc h.steps;
  least = let t = h.least in omega (arith, t, e, less);
  most = let t = h.most in omega (arith, t, e);
  going = subst (λ (s : State). IsGoing l.output (after code h.steps s)) (sym goes) h.going;
}
call_follows code wide low m k st st2 Spent Q e less goes h = tt

module _ (c : Context) (routines : List Routine) (f : ℕ) (r : Routine) (there : IsRoutine (with_table c routines) f r) (w : Setting ℕ) (wide most : ℕ) (some : 1 ≤ wide) where
  abbrev mach : Code
  mach = with_table c routines

  -- nothing but the output has changed
  abbrev Printed : Store → Option Datum → Store → Type 0
  Printed regs v last = (v ≡ None) × (last ≡ regs)

  done_printing : (p : ℕ) (i : Instr) (regs : Store) (callers : List Caller) (m : Meter) (o : Outcome (List ℕ)) (ds : Data) → instr_at (Some r) p ≡ Some i → IsText ds m o → ((bytes : List ℕ) → ((next : List ℕ → Effect) → as_bytes ds next ≡ next bytes) → effect mach.shapes i regs ≡ GoesOn regs bytes)
      → Quick mach 1 (at_place f p regs callers m.output) (o >>= printed) (Comes f (p + 1) callers (Printed regs)) m
  done_printing p i regs callers m (Done bytes k) ds stands h does =
      (h.0.0, record { regs = regs; is = one_step mach f r there p i regs callers m.output stands ∙ ap (λ (e : Effect). stepped mach (record { routine = f; at = p; registers = regs }) callers m.output e) (does bytes h.1) ∙ ap (λ (out : List ℕ). at_place f (p + 1) regs callers (out ++ bytes)) (sym h.0.1); ok = (refl, refl) })
  done_printing p i regs callers m (Fault why at k) ds stands h does = tt
  done_printing p i regs callers m (More k) ds stands h does = absurd h
  done_printing p i regs callers m Spent ds stands h does = tt

  print_quick : (place p d : ℕ) (vs : List Datum) (regs : Store) (callers : List Caller) (m : Meter) → Hold regs d vs → instr_at (Some r) p ≡ Some (instr.Print d) → Quick mach 1 (at_place f p regs callers m.output) (print_call w.limit place vs m) (Comes f (p + 1) callers (Printed regs)) m
  print_quick place p d [] regs callers m h stands = tt
  print_quick place p d (Null ∷ []) regs callers m h stands = tt
  print_quick place p d (Truth b ∷ []) regs callers m h stands = tt
  print_quick place p d (Whole z ∷ []) regs callers m h stands = tt
  print_quick place p d (Record fs ∷ []) regs callers m h stands = tt
  print_quick place p d (Array ds ∷ []) regs callers m h stands =
      done_printing p (instr.Print d) regs callers m (text_of w.limit place ds m) ds stands (text_is w.limit place ds m) (λ bytes reads. print_does mach regs d ds bytes h.0 reads)
  print_quick place p d (v ∷ u ∷ vs) regs callers m h stands = tt

  print_int_quick : (place p d : ℕ) (vs : List Datum) (regs : Store) (callers : List Caller) (m : Meter) → Hold regs d vs → instr_at (Some r) p ≡ Some (instr.PrintInt d) → Quick mach 1 (at_place f p regs callers m.output) (print_int_call place vs m) (Comes f (p + 1) callers (Printed regs)) m
  print_int_quick place p d [] regs callers m h stands = tt
  print_int_quick place p d (Null ∷ []) regs callers m h stands = tt
  print_int_quick place p d (Truth b ∷ []) regs callers m h stands = tt
  print_int_quick place p d (Array ds ∷ []) regs callers m h stands = tt
  print_int_quick place p d (Record fs ∷ []) regs callers m h stands = tt
  print_int_quick place p d (Whole z ∷ []) regs callers m h stands =
      (refl, record { regs = regs; is = one_step mach f r there p (instr.PrintInt d) regs callers m.output stands ∙ ap (λ (e : Effect). stepped mach (record { routine = f; at = p; registers = regs }) callers m.output e) (print_int_does mach regs d z h.0); ok = (refl, refl) })
  print_int_quick place p d (v ∷ u ∷ vs) regs callers m h stands = tt

  -- ---- calls of each kind, in whatever code

  module _ (calls : CallsLead c routines w wide most) where
    -- in so many steps
    spent_on : (n g place p : ℕ) (vs : List Datum) (regs : Store) (callers : List Caller) (m : Meter) (next : Run (Option Datum)) (R : Option Datum → Store → Type 0) (to : ℕ) → 1 ≤ wide * n → n ≤ 16 → w.call g place vs m ≡ spend true next m
        → ((k : Meter) → Quick mach n (at_place f p regs callers k.output) (next k) (Comes f to callers R) k) → Follows mach wide 0 0 m (at_place f p regs callers m.output) (w.call g place vs m) (Comes f to callers R)
    spent_on n g place p vs regs callers m next R to some few is h =
        subst (λ (o : Outcome (Option Datum)). Follows mach wide 0 0 m (at_place f p regs callers m.output) o (Comes f to callers R)) (sym is)
        (quick_spent mach wide n m (at_place f p regs callers m.output) next (Comes f to callers R) some few refl
        (λ k out ticks. subst (λ (bytes : List ℕ). Quick mach n (at_place f p regs callers bytes) (next k) (Comes f to callers R) k) out (h k)))

    -- what isn't there faults, where it has a tick
    nothing_follows : (g place : ℕ) (vs : List Datum) (m : Meter) (st : State) (Q : Option Datum → Meter → State → Type 0) → target c.results g ≡ Nothing → m.ticks ≤ most → IsGoing m.output st → Follows mach wide 0 0 m st (w.call g place vs m) Q
    nothing_follows g place vs m st Q is few going =
        subst (λ (o : Outcome (Option Datum)). Follows mach wide 0 0 m st o Q) (sym (calls.nothing g place vs m is few)) (quick_spent mach wide 1 m st (Fault kind.Member place) Q (omega (arith, some)) (omega arith) going (λ k out ticks. tt))

    -- a declared function or method: its result is in the register behind the call
    abbrev Returned : ℕ → Store → (List Datum) → Option Datum → Store → Type 0
    Returned d regs vs v last = SlotProper v × (last ≡ put (emptied regs d (length vs)) d (Some (or_null v)))

    declared_follows : (gives : Bool) (g place p d count : ℕ) (vs : List Datum) (regs : Store) (callers : List Caller) (m : Meter) → target c.results g ≡ Declared gives → m.ticks ≤ most → ListProper vs → length vs ≡ count → Hold regs d vs
        → instr_at (Some r) p ≡ Some (instr.Call d g (registers_from d count))
        → Follows mach wide 0 0 m (at_place f p regs callers m.output) (w.call g place vs m) (Comes f (p + 1) callers (Returned d regs vs))
    declared_follows gives g place p d count vs regs callers m is few proper many h stands = by m.ticks refl
      where
        waits : Caller
        waits = record { frame = record { routine = f; at = p + 1; registers = emptied regs d (length vs) }; target = d }

        goes : step mach (at_place f p regs callers m.output) ≡ entered (slice_get routines g) g vs (waits ∷ callers) m.output
        goes = one_step mach f r there p (instr.Call d g (registers_from d count)) regs callers m.output stands ∙ ap (λ (e : Effect). stepped mach (record { routine = f; at = p; registers = regs }) callers m.output e) (call_does mach regs d g count vs many h)

        by : (t : ℕ) → m.ticks ≡ t → Follows mach wide 0 0 m (at_place f p regs callers m.output) (w.call g place vs m) (Comes f (p + 1) callers (Returned d regs vs))
        by zero e = subst (λ (o : Outcome (Option Datum)). Follows mach wide 0 0 m (at_place f p regs callers m.output) o (Comes f (p + 1) callers (Returned d regs vs))) (sym (calls.none g place vs m few e)) (record { steps = 0; least = omega (arith, e); most = omega arith; going = refl })
        by (suc t) e =
            let run = calls.routines_follow g place gives vs (waits ∷ callers) m t is e few proper in
            call_follows mach wide run.low m (record m { ticks = t }) (at_place f p regs callers m.output) (entered (slice_get routines g) g vs (waits ∷ callers) m.output) (w.call g place vs m) (Comes f (p + 1) callers (Returned d regs vs)) e run.less goes
            (follows_map mach wide run.low 4 (record m { ticks = t }) (entered (slice_get routines g) g vs (waits ∷ callers) m.output) (w.call g place vs m) (Left (waits ∷ callers)) (Comes f (p + 1) callers (Returned d regs vs)) run.follows
            (λ v k st left. record { regs = put (emptied regs d (length vs)) d (Some (or_null v)); is = left.is; ok = (left.proper, refl) }))

    -- ---- calls in expressions

    -- the registers before the first argument are as before
    before_call : (d count x : ℕ) (regs : Store) (v : Option Datum) → x < d → slot (put (emptied regs d count) d v) x ≡ slot regs x
    before_call d count x regs v less = put_other (emptied regs d count) d x v (λ e. absurd (omega (arith, less, e))) ∙ emptied_below regs d count x less

    -- null comes into the register behind what printed
    null_comes : (p d : ℕ) (regs : Store) (callers : List Caller) → instr_at (Some r) (p + 1) ≡ Some (instr.Const d scalar.Null) → length regs ≡ r.registers
        → (v : Option Datum) (k : Meter) (st : State) → Comes f (p + 1) callers (Printed regs) v k st → Comes f (p + 2) callers (Called d regs) v k (step mach st)
    null_comes p d regs callers stands size v k st h =
        let same : h.regs ≡ regs = h.ok.1 in
        let place : p + 1 + 1 ≡ p + 2 = omega arith in
        record {
          regs = put regs d (Some Null);
          is = ap (λ (s : State). step mach s) (h.is ∙ ap (λ (q : Store). at_place f (p + 1) q callers k.output) same) ∙ quiet_step mach f r there (p + 1) (instr.Const d scalar.Null) regs (put regs d (Some Null)) callers k.output stands refl
              ∙ ap (λ (q : ℕ). at_place f q (put regs d (Some Null)) callers k.output) place;
          ok = record {
            proper = subst (λ (o : Option Datum). SlotProper o) (sym h.ok.0) tt;
            value = put_here regs d (Some Null) (let l = target_room c routines f r there wide (p + 1) d (instr.Const d scalar.Null) [] stands refl in omega (arith, l, size)) ∙ ap (λ (o : Option Datum). Some (or_null o)) (sym h.ok.0);
            kept = λ t l. put_other regs d t (Some Null) (λ g. absurd (omega (arith, l, g)));
            size = put_size regs d (Some Null);
          };
        }

    pub call_evaluated : (g place d at : ℕ) (vs : List Datum) (regs : Store) (callers : List Caller) (m : Meter) → m.ticks ≤ most → ListProper vs → Hold regs d vs → length regs ≡ r.registers → StandAt r.body at (expressions.call (target c.results g) g d (length vs))
        → Follows mach wide 0 0 m (at_place f at regs callers m.output) (w.call g place vs m) (Comes f (at + length (expressions.call (target c.results g) g d (length vs))) callers (Called d regs))
    call_evaluated g place d at vs regs callers m few proper h size stands = by (target c.results g) refl stands
      where
        by : (tg : Target) → target c.results g ≡ tg → StandAt r.body at (expressions.call tg g d (length vs)) → Follows mach wide 0 0 m (at_place f at regs callers m.output) (w.call g place vs m) (Comes f (at + length (expressions.call tg g d (length vs))) callers (Called d regs))
        by (Declared gives) is stands =
            follows_map mach wide 0 0 m (at_place f at regs callers m.output) (w.call g place vs m) (Comes f (at + 1) callers (Returned d regs vs)) (Comes f (at + 1) callers (Called d regs))
            (declared_follows gives g place at d (length vs) vs regs callers m is few proper refl h stands.0)
            (λ v k st came. record {
              regs = came.regs;
              is = came.is;
              ok = record {
                proper = came.ok.0;
                value = ap (λ (q : Store). slot q d) came.ok.1 ∙ put_here (emptied regs d (length vs)) d (Some (or_null v)) (let l = target_room c routines f r there wide at d (instr.Call d g (registers_from d (length vs))) (registers_from d (length vs)) stands.0 refl in let z = emptied_size regs d (length vs) in omega (arith, l, z, size));
                kept = λ t l. ap (λ (q : Store). slot q t) came.ok.1 ∙ before_call d (length vs) t regs (Some (or_null v)) l;
                size = ap (λ (q : Store). length q) came.ok.1 ∙ put_size (emptied regs d (length vs)) d (Some (or_null v)) ∙ emptied_size regs d (length vs);
              };
            })
        by Prints is stands =
            spent_on 2 g place at vs regs callers m (print_call w.limit place vs) (Called d regs) (at + 2) (omega (arith, some)) (omega arith) (calls.prints g place vs m is few)
            (λ k. quick_more mach (at_place f at regs callers k.output) (print_call w.limit place vs k) (Comes f (at + 1) callers (Printed regs)) (Comes f (at + 2) callers (Called d regs)) k (null_comes at d regs callers stands.1.0 size) (print_quick place at d vs regs callers k h stands.0))
        by PrintsInt is stands =
            spent_on 2 g place at vs regs callers m (print_int_call place vs) (Called d regs) (at + 2) (omega (arith, some)) (omega arith) (calls.prints_int g place vs m is few)
            (λ k. quick_more mach (at_place f at regs callers k.output) (print_int_call place vs k) (Comes f (at + 1) callers (Printed regs)) (Comes f (at + 2) callers (Called d regs)) k (null_comes at d regs callers stands.1.0 size) (print_int_quick place at d vs regs callers k h stands.0))
        by Nothing is stands = nothing_follows g place vs m (at_place f at regs callers m.output) _ is few refl

    -- ---- calls that are statements

    module _ (n : ℕ) (o : Offers) (vs : Scope) (s : Variables) (known : AreKnown n vs s) (ends : Ends) (callers : List Caller) (pl : Places) where
      -- registers that are as before below n
      kept_below : (store regs last : Store) → ((y : ℕ) → y < n → slot last y ≡ slot regs y) → length last ≡ length regs → Live vs s store regs → length regs ≡ r.registers → StoreProper store → Kept vs s r.registers store last
      kept_below store regs last same size live long proper = record { live = record { holds = λ y u i a e. same y (known.below y i) ∙ live.holds y u i a e }; size = size ∙ long; proper = proper }

      -- the result is released
      released_one : (p : ℕ) (store regs : Store) (m : Meter) → StandAt r.body p (release_where true n) → p + length (release_where true n) ≡ pl.after → Kept vs s r.registers store regs
          → Follows mach wide 0 1 m (at_place f p regs callers m.output) (Done (Went store) m) (Leads f callers r.registers pl vs vs s ends)
      released_one p store regs m stands end kept =
          then_on mach f r there wide 0 0 p (instr.Clear (n ∷ [])) regs (put regs n None) callers m (Done (Went store) m) (Leads f callers r.registers pl vs vs s ends) stands.0 refl
          (arrives c routines f r there wide 0 0 (p + 1) pl store (put regs n None) callers m vs vs s ends end (kept_below store regs (put regs n None) (λ y l. put_other regs n y None (λ g. absurd (omega (arith, l, g)))) (put_size regs n None) kept.live kept.size kept.proper))

      released_where : (b : Bool) (p : ℕ) (store regs : Store) (m : Meter) → StandAt r.body p (release_where b n) → p + length (release_where b n) ≡ pl.after → Kept vs s r.registers store regs
          → Follows mach wide 0 1 m (at_place f p regs callers m.output) (Done (Went store) m) (Leads f callers r.registers pl vs vs s ends)
      released_where true p store regs m stands end kept = released_one p store regs m stands end kept
      released_where false p store regs m stands end kept = arrives c routines f r there wide 0 1 p pl store regs callers m vs vs s ends (omega (arith, end)) kept

      step_led : (g place p count : ℕ) (us : List Datum) (store first regs : Store) (m : Meter) → m.ticks ≤ most → StandAt r.body p (call_step (target c.results g) g n count) → p + length (call_step (target c.results g) g n count) ≡ pl.after → StoreProper store → length first ≡ r.registers → GotAll vs n n count s store first us regs
          → Follows mach wide 0 1 m (at_place f p regs callers m.output) (w.call g place us m >>= (λ v. Done (Went store))) (Leads f callers r.registers pl vs vs s ends)
      step_led g place p count us store first regs m few stands end proper size got = by (target c.results g) refl stands end
        where
          Q : Exit → Meter → State → Type 0
          Q = Leads f callers r.registers pl vs vs s ends

          long : length regs ≡ r.registers
          long = got.size ∙ size

          by : (tg : Target) → target c.results g ≡ tg → StandAt r.body p (call_step tg g n count) → p + length (call_step tg g n count) ≡ pl.after
              → Follows mach wide 0 1 m (at_place f p regs callers m.output) (w.call g place us m >>= (λ v. Done (Went store))) (Leads f callers r.registers pl vs vs s ends)
          by (Declared gives) is stands end =
              follows_then mach wide 0 0 0 1 0 1 m (at_place f p regs callers m.output) (w.call g place us m) (λ v. Done (Went store)) f (p + 1) callers (Returned n regs us) Q (omega arith) (omega arith)
              (declared_follows gives g place p n count us regs callers m is few got.proper got.many got.values stands.0)
              (λ v k last le came. released_where gives (p + 1) store last k stands.1 (omega (arith, end))
              (kept_below store regs last (λ y l. ap (λ (q : Store). slot q y) came.1 ∙ before_call n (length us) y regs (Some (or_null v)) l) (ap (λ (q : Store). length q) came.1 ∙ put_size (emptied regs n (length us)) n (Some (or_null v)) ∙ emptied_size regs n (length us)) got.live long proper))
          by Prints is stands end =
              follows_then mach wide 0 0 0 1 0 1 m (at_place f p regs callers m.output) (w.call g place us m) (λ v. Done (Went store)) f (p + 1) callers (Printed regs) Q (omega arith) (omega arith)
              (spent_on 1 g place p us regs callers m (print_call w.limit place us) (Printed regs) (p + 1) (omega (arith, some)) (omega arith) (calls.prints g place us m is few) (λ k. print_quick place p n us regs callers k got.values stands.0))
              (λ v k last le came. released_one (p + 1) store last k stands.1 (omega (arith, end)) (kept_below store regs last (λ y l. ap (λ (q : Store). slot q y) came.1) (ap (λ (q : Store). length q) came.1) got.live long proper))
          by PrintsInt is stands end =
              follows_then mach wide 0 0 0 1 0 1 m (at_place f p regs callers m.output) (w.call g place us m) (λ v. Done (Went store)) f (p + 1) callers (Printed regs) Q (omega arith) (omega arith)
              (spent_on 1 g place p us regs callers m (print_int_call place us) (Printed regs) (p + 1) (omega (arith, some)) (omega arith) (calls.prints_int g place us m is few) (λ k. print_int_quick place p n us regs callers k got.values stands.0))
              (λ v k last le came. arrives c routines f r there wide 0 1 (p + 1) pl store last callers k vs vs s ends (omega (arith, end)) (kept_below store regs last (λ y l. ap (λ (q : Store). slot q y) came.1) (ap (λ (q : Store). length q) came.1) got.live long proper))
          by Nothing is stands end =
              follows_then mach wide 0 0 0 1 0 1 m (at_place f p regs callers m.output) (w.call g place us m) (λ v. Done (Went store)) f p callers (λ v last. ⊥) Q (omega arith) (omega arith)
              (nothing_follows g place us m (at_place f p regs callers m.output) (Comes f p callers (λ v last. ⊥)) is few refl) (λ v k last le never. absurd never)

      pub call_led : (g place at : ℕ) (es : Exprs ℕ) (store regs : Store) (m : Meter) → AreEvaluated c routines f r w n wide most es → BoundExprs o n vs es → StandAt r.body at (statements.call c g es s n) → at + length (statements.call c g es s n) ≡ pl.after → Kept vs (before_all es s) r.registers store regs → m.ticks ≤ most
          → Follows mach wide (sizes es + 1) 0 m (at_place f at regs callers m.output) (spend true (λ k. eval_all w true es store k >>= (λ us j. w.call g place us j >>= (λ v. Done (Went store)))) m) (Leads f callers r.registers pl vs vs s ends)
      call_led g place at es store regs m se b stands end kept few =
          let xs = codes c es s n in
          let ys = call_step (target c.results g) g n (count_of es) in
          let l1 : length (xs ++ ys) ≡ length xs + length ys = length-append xs ys in
          let Q = Leads f callers r.registers pl vs vs s ends in
          then_paid mach f r there wide (sizes es) 1 (sizes es + 1) at regs callers m (λ k. eval_all w true es store k >>= (λ us j. w.call g place us j >>= (λ v. Done (Went store)))) Q (omega arith) (omega arith)
          (λ k out ticks. follows_then mach wide (sizes es) 0 0 1 (sizes es) 1 k (at_place f at regs callers k.output) (eval_all w true es store k) (λ us j. w.call g place us j >>= (λ v. Done (Went store))) f (at + length xs) callers (GotAll vs n n (count_of es) s store regs) Q (omega arith) (omega arith)
          (se o n vs s n at store regs callers k b (omega arith) known (omega arith) (stand_front r.body at xs ys stands) kept.live kept.proper kept.size (omega (arith, ticks, few)))
          (λ us j last le got. step_led g place (at + length xs) (count_of es) us store regs last j (omega (arith, le, ticks, few)) (stand_back r.body at xs ys stands) (omega (arith, end, l1)) kept.proper kept.size got))

-- calls in expressions follow
pub calls_follow : (c : Context) (routines : List Routine) (w : Setting ℕ) (wide most : ℕ) → 1 ≤ wide → CallsLead c routines w wide most → CallsFollow c routines w wide most Anything
calls_follow c routines w wide most some calls f r there g place d at vs regs callers m any few proper held size stands = call_evaluated c routines f r there w wide most some calls g place d at vs regs callers m few proper held size stands
