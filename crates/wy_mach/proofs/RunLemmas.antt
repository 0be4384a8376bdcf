-- What several turns do.
use Rattle.std.proofs.Common.{◌≡◌, inl, inr, ℕ, zero, suc, ◌+◌, ◌≤◌, List, [], ◌∷◌, ◌++◌, length, take, Bool, true, false, cond, Option, Some, None, refl, sym, ◌∙◌, ap, subst, arith, append_assoc}
use Rattle.std.specs.Prelude.{Vec, nat_eq, slice_get, ⊤}
use Rattle.std.specs.declared.alloc.Global.{Global}
use Rattle.std.proofs.lemmas.List.{append-nil, length-append, take-append-le, take_all}
use Rattle.std.proofs.Math.Seq.{take-append-add}
use Rattle.wy_port.proofs.TakenLemmas.{with_taken-append}
use Rattle.wy_port.specs.Count.{Rose}
use Rattle.wy_port.specs.Taken.{TookFront, with_taken}
use Rattle.wy_value.specs.Datum.{Datum}
use Rattle.wy_heap.specs.declared.heap.Heap.{Heap}
use Rattle.wy_code.specs.declared.instructions.Instr.{Instr}
use Rattle.wy_code.specs.declared.routines.Routine.{Routine}
use Rattle.wy_code.specs.declared.routines.Code.{Code}
use Rattle.wy_code_spec.specs.step.Step as step
use Rattle.wy_code_spec.specs.step.Step.{Frame, Caller, State, Runs, Ended, Stuck, Effect, GoesOn, GoesTo, Calls, Returns, Fails, effect, stepped, executed, entered, returned, next_of, after}
use Rattle.wy_mach.specs.declared.machine.Machine.{Machine}
use Rattle.wy_mach.specs.States.{ShowsState}
use Rattle.wy_mach.specs.Running.{Reaches, EndsWith, Breaks, Steps, IsDone, HasNoNext, HasSteps, HasTextOf, LeavesResult, ShowsFirst, Spends, Finishes, PrintsFront, IsStuck, next_in}
use Rattle.wy_mach.proofs.StateLemmas.{nothing_taken}

-- the machine shows the state, and the sink took all that was printed; of what has no step nothing is said
abbrev pub Stays : Machine → Option (List ℕ) → Option (List ℕ) → State → Type 0
Stays k first now (Runs fr callers out) = ShowsState k fr callers × (now ≡ with_taken first out)
Stays k first now (Ended v out) = ⊥
Stays k first now Stuck = ⊤

-- whatever state the run started in, the machine shows one from which the rest of the steps lead to where all of them lead from there
abbrev pub Follows : Code → Machine → Machine → Option (List ℕ) → Option (List ℕ) → ℕ → ℕ → Type 0
Follows code old k first now steps left = (st : State) → ShowsFirst old st → (here : State) × Stays k first now here × (after code steps st ≡ after code left here)

pub follows_first : (code : Code) (k : Machine) (first : Option (List ℕ)) (steps left : ℕ) → left ≡ steps → Follows code k k first first steps left
follows_first code k first steps left same st shows = (st, stays_first k first st shows, ap (λ (n : ℕ). after code n st) (sym same))
  where
    stays_first : (k : Machine) (first : Option (List ℕ)) (st : State) → ShowsFirst k st → Stays k first first st
    stays_first k first (Runs fr callers out) shows = (shows.0, nothing_taken first out (sym shows.1))
    stays_first k first (Ended v out) shows = absurd shows
    stays_first k first Stuck shows = tt

-- ---- one more turn

reaches_stays : (new : Machine) (first before now : Option (List ℕ)) (out : List ℕ) (st : State) → before ≡ with_taken first out → Reaches new before now out st → Stays new first now st
reaches_stays new first before now out (Runs fr callers more) so_far reaches =
    (reaches.0, reaches.1.2 ∙ ap (λ (o : Option (List ℕ)). with_taken o reaches.1.0) so_far ∙ with_taken-append first out reaches.1.0 ∙ ap (with_taken first) (sym reaches.1.1))
reaches_stays new first before now out (Ended v more) so_far reaches = absurd reaches
reaches_stays new first before now out Stuck so_far reaches = tt

stays_on : (code : Code) (old new : Machine) (first before now : Option (List ℕ)) (st : State) → Steps (next_in code) old new before now → Stays old first before st → Stays new first now (step.step code st)
stays_on code old new first before now (Runs fr callers out) steps stays = reaches_stays new first before now out (step.step code (Runs fr callers out)) stays.1 (steps fr callers out stays.0)
stays_on code old new first before now (Ended v out) steps stays = absurd stays
stays_on code old new first before now Stuck steps stays = tt

pub follows_on : (code : Code) (start old new : Machine) (first before now : Option (List ℕ)) (steps left less : ℕ) → left ≡ suc less → Follows code start old first before steps left → Steps (next_in code) old new before now → Follows code start new first now steps less
follows_on code start old new first before now steps left less is follows went st shows =
    let so_far = follows st shows in (
      step.step code so_far.0,
      stays_on code old new first before now so_far.0 went so_far.1,
      so_far.2 ∙ ap (λ (n : ℕ). after code n so_far.0) is,
    )

-- ---- states that stay

after_ended : (code : Code) (n : ℕ) (v : Datum) (out : List ℕ) → after code n (Ended v out) ≡ Ended v out
after_ended code zero v out = refl
after_ended code (suc n) v out = after_ended code n v out

after_stuck : (code : Code) (n : ℕ) → after code n Stuck ≡ Stuck
after_stuck code zero = refl
after_stuck code (suc n) = after_stuck code n

-- ---- what is printed further

-- what is printed begins with this
abbrev pub Further : List ℕ → State → Type 0
Further out (Runs fr callers all) = (more : List ℕ) × (all ≡ out ++ more)
Further out (Ended v all) = (more : List ℕ) × (all ≡ out ++ more)
Further out Stuck = ⊤

further_entered : (o : Option Routine) (b : Bool) (out all : List ℕ) (f : ℕ) (vs : List Datum) (callers : List Caller) → (more : List ℕ) × (all ≡ out ++ more) → Further out (entered o f vs callers all)
further_entered None b out all f vs callers more = tt
further_entered (Some r) b out all f vs callers more = further_cond (nat_eq (length vs) r.params) out all (step.entry_registers r vs) f callers more
  where
    further_cond : (b : Bool) (out all : List ℕ) (s : List (Option Datum)) (f : ℕ) (callers : List Caller) → (more : List ℕ) × (all ≡ out ++ more) → Further out (cond b (Runs (record { routine = f; at = 0; registers = s }) callers all) Stuck)
    further_cond true out all s f callers more = more
    further_cond false out all s f callers more = tt

further_returned : (v : Datum) (callers : List Caller) (out all : List ℕ) → (more : List ℕ) × (all ≡ out ++ more) → Further out (returned v callers all)
further_returned v [] out all more = more
further_returned v (c ∷ callers) out all more = more

further_stepped : (code : Code) (fr : Frame) (callers : List Caller) (out all : List ℕ) (e : Effect) → (more : List ℕ) × (all ≡ out ++ more) → Further out (stepped code fr callers all e)
further_stepped code fr callers out all (GoesOn s printed) more = (more.0 ++ printed, ap (λ (l : List ℕ). l ++ printed) more.1 ∙ append_assoc out more.0 printed)
further_stepped code fr callers out all (GoesTo t) more = more
further_stepped code fr callers out all (Calls d f vs s) more =
    further_entered (slice_get code.routines f) true out all f vs (record { frame = record fr { at = fr.at + 1; registers = s }; target = d } ∷ callers) more
further_stepped code fr callers out all (Returns v) more = further_returned v callers out all more
further_stepped code fr callers out all Fails more = tt

further_executed : (code : Code) (fr : Frame) (callers : List Caller) (out all : List ℕ) (o : Option Instr) → (more : List ℕ) × (all ≡ out ++ more) → Further out (executed code fr callers all o)
further_executed code fr callers out all None more = tt
further_executed code fr callers out all (Some i) more = further_stepped code fr callers out all (effect code.shapes i fr.registers) more

further_step : (code : Code) (out : List ℕ) (st : State) → Further out st → Further out (step.step code st)
further_step code out (Runs fr callers all) more = further_executed code fr callers out all (next_of code.routines fr) more
further_step code out (Ended v all) more = more
further_step code out Stuck more = tt

further : (code : Code) (n : ℕ) (out : List ℕ) (st : State) → Further out st → Further out (after code n st)
further code zero out st more = more
further code (suc n) out st more = further code n out (step.step code st) (further_step code out st more)

-- ---- fronts

front_more : (first now : Option (List ℕ)) (a all b : List ℕ) → all ≡ a ++ b → TookFront first now a → TookFront first now all
front_more first now a all b is front = record {
  count = front.count;
  within = omega (arith, front.within, ap length is, length-append a b);
  took = front.took ∙ ap (with_taken first) (sym (ap (take front.count) is ∙ take-append-le front.count a b front.within));
}

front_on : (first before now : Option (List ℕ)) (out printed all : List ℕ) → all ≡ out ++ printed → before ≡ with_taken first out → TookFront before now printed → TookFront first now all
front_on first before now out printed all is so_far front = record {
  count = length out + front.count;
  within = omega (arith, front.within, ap length is, length-append out printed);
  took = front.took ∙ ap (λ (o : Option (List ℕ)). with_taken o (take front.count printed)) so_far ∙ with_taken-append first out (take front.count printed)
      ∙ ap (with_taken first) (sym (ap (take (length out + front.count)) is ∙ take-append-add out printed front.count));
}

front_all : (first now : Option (List ℕ)) (out : List ℕ) → now ≡ with_taken first out → TookFront first now out
front_all first now out so = record { count = length out; within = omega arith; took = so ∙ ap (with_taken first) (sym (take_all (length out) out (omega arith))) }

front_final : (first now : Option (List ℕ)) (out : List ℕ) (st : State) → TookFront first now out → Further out st → PrintsFront first now st
front_final first now out (Runs fr callers all) front more = front_more first now out all more.0 more.1 front
front_final first now out (Ended v all) front more = front_more first now out all more.0 more.1 front
front_final first now out Stuck front more = tt

-- ---- ends of a run

spends : (k : Machine) (first now : Option (List ℕ)) (st : State) → Stays k first now st → Spends first now st
spends k first now (Runs fr callers out) stays = stays.1
spends k first now (Ended v out) stays = absurd stays
spends k first now Stuck stays = tt

pub run_spent : (code : Code) (old k : Machine) (first now : Option (List ℕ)) (steps left : ℕ) → left ≡ 0 → Follows code old k first now steps left → (st : State) → ShowsFirst old st → Spends first now (after code steps st)
run_spent code old k first now steps left none follows st shows =
    let here = follows st shows in
    subst (Spends first now) (sym (here.2 ∙ ap (λ (n : ℕ). after code n here.0) none)) (spends k first now here.0 here.1)

done_finishes : (code : Code) (n : ℕ) (ends : Datum → Type 0) (first now : Option (List ℕ)) (out : List ℕ) (st : State) → now ≡ with_taken first out → EndsWith ends out st → Finishes ends first now (after code n st)
done_finishes code n ends first now out (Runs fr callers all) so ends_so = absurd ends_so
done_finishes code n ends first now out (Ended v all) so ends_so = subst (Finishes ends first now) (sym (after_ended code n v all)) (ends_so.0, so ∙ ap (with_taken first) (sym ends_so.1))
done_finishes code n ends first now out Stuck so ends_so = subst (Finishes ends first now) (sym (after_stuck code n)) tt

finishes : (code : Code) (less : ℕ) (k : Machine) (ends : Datum → Type 0) (first before now : Option (List ℕ)) (st : State) → now ≡ before → ((fr : Frame) (callers : List Caller) (output : List ℕ) → ShowsState k fr callers → EndsWith ends output (next_in code fr callers output)) → Stays k first before st → Finishes ends first now (after code (suc less) st)
finishes code less k ends first before now (Runs fr callers out) same done stays = done_finishes code less ends first now out (step.step code (Runs fr callers out)) (same ∙ stays.1) (done fr callers out stays.0)
finishes code less k ends first before now (Ended v out) same done stays = absurd stays
finishes code less k ends first before now Stuck same done stays = subst (Finishes ends first now) (sym (after_stuck code less)) tt

finishes_more : (first now : Option (List ℕ)) (ends wider : Datum → Type 0) (st : State) → ((v : Datum) → ends v → wider v) → Finishes ends first now st → Finishes wider first now st
finishes_more first now ends wider (Runs fr callers out) more so = so
finishes_more first now ends wider (Ended v out) more so = (more v so.0, so.1)
finishes_more first now ends wider Stuck more so = tt

pub run_done : (code : Code) (old k : Machine) (first before now : Option (List ℕ)) (steps left less : ℕ) (text : Option (Vec ℕ Global)) (copies nodes : ℕ) → left ≡ suc less → k.has_result ≡ old.has_result → Follows code old k first before steps left → IsDone (next_in code) k text copies nodes × (now ≡ before)
    → (st : State) → ShowsFirst old st → Finishes (λ v. HasTextOf old.has_result text v × ((heap : Heap) × LeavesResult heap copies nodes v)) first now (after code steps st)
run_done code old k first before now steps left less text copies nodes is wanted follows done st shows =
    let here = follows st shows in
    subst (Finishes (λ v. HasTextOf old.has_result text v × ((heap : Heap) × LeavesResult heap copies nodes v)) first now) (sym (here.2 ∙ ap (λ (n : ℕ). after code n here.0) is))
    (finishes_more first now (λ v. HasTextOf k.has_result text v × LeavesResult k.heap copies nodes v) (λ v. HasTextOf old.has_result text v × ((heap : Heap) × LeavesResult heap copies nodes v)) (after code (suc less) here.0)
    (λ v so. (subst (λ (b : Bool). HasTextOf b text v) wanted so.0, (k.heap, so.1)))
    (finishes code less k (λ v. HasTextOf k.has_result text v × LeavesResult k.heap copies nodes v) first before now here.0 done.1 done.0 here.1))

breaks_front : (code : Code) (n : ℕ) (first before now : Option (List ℕ)) (out : List ℕ) (st : State) → before ≡ with_taken first out → Breaks before now out st → PrintsFront first now (after code n st)
breaks_front code n first before now out (Runs fr callers all) so breaks =
    front_final first now all (after code n (Runs fr callers all)) (front_on first before now out breaks.0 all breaks.1 so breaks.2) (further code n all (Runs fr callers all) ([], sym (append-nil all)))
breaks_front code n first before now out (Ended v all) so breaks = absurd breaks
breaks_front code n first before now out Stuck so breaks = subst (PrintsFront first now) (sym (after_stuck code n)) tt

fault_front : (code : Code) (less : ℕ) (k : Machine) (first before now : Option (List ℕ)) (st : State) → ((fr : Frame) (callers : List Caller) (output : List ℕ) → ShowsState k fr callers → Breaks before now output (next_in code fr callers output)) → Stays k first before st → PrintsFront first now (after code (suc less) st)
fault_front code less k first before now (Runs fr callers out) breaks stays = breaks_front code less first before now out (step.step code (Runs fr callers out)) stays.1 (breaks fr callers out stays.0)
fault_front code less k first before now (Ended v out) breaks stays = absurd stays
fault_front code less k first before now Stuck breaks stays = subst (PrintsFront first now) (sym (after_stuck code less)) tt

pub run_fault : (code : Code) (old k : Machine) (first before now : Option (List ℕ)) (steps left less : ℕ) → left ≡ suc less → Follows code old k first before steps left → ((fr : Frame) (callers : List Caller) (output : List ℕ) → ShowsState k fr callers → Breaks before now output (next_in code fr callers output))
    → (st : State) → ShowsFirst old st → PrintsFront first now (after code steps st)
run_fault code old k first before now steps left less is follows breaks st shows =
    let here = follows st shows in
    subst (PrintsFront first now) (sym (here.2 ∙ ap (λ (n : ℕ). after code n here.0) is)) (fault_front code less k first before now here.0 breaks here.1)

stays_front : (code : Code) (n : ℕ) (k : Machine) (first now : Option (List ℕ)) (st : State) → Stays k first now st → PrintsFront first now (after code n st)
stays_front code n k first now (Runs fr callers out) stays =
    front_final first now out (after code n (Runs fr callers out)) (front_all first now out stays.1) (further code n out (Runs fr callers out) ([], sym (append-nil out)))
stays_front code n k first now (Ended v out) stays = absurd stays
stays_front code n k first now Stuck stays = subst (PrintsFront first now) (sym (after_stuck code n)) tt

-- where a turn printed nothing and the run ended
pub run_front : (code : Code) (old k : Machine) (first before now : Option (List ℕ)) (steps left : ℕ) → now ≡ before → Follows code old k first before steps left → (st : State) → ShowsFirst old st → PrintsFront first now (after code steps st)
run_front code old k first before now steps left same follows st shows =
    let here = follows st shows in
    subst (λ (o : Option (List ℕ)). PrintsFront first o (after code steps st)) (sym same)
    (subst (PrintsFront first before) (sym here.2) (stays_front code left k first before here.0 here.1))

stuck_now : (code : Code) (less : ℕ) (k : Machine) (first before : Option (List ℕ)) (st : State) → HasNoNext (next_in code) k → Stays k first before st → IsStuck (after code (suc less) st)
stuck_now code less k first before (Runs fr callers out) none stays =
    subst (λ (s : State). IsStuck (after code less s)) (sym (none fr callers out stays.0)) (subst IsStuck (sym (after_stuck code less)) tt)
stuck_now code less k first before (Ended v out) none stays = absurd stays
stuck_now code less k first before Stuck none stays = subst IsStuck (sym (after_stuck code less)) tt

run_stuck : (code : Code) (old k : Machine) (first before : Option (List ℕ)) (steps left less : ℕ) → left ≡ suc less → Follows code old k first before steps left → HasNoNext (next_in code) k → (st : State) → ShowsFirst old st → IsStuck (after code steps st)
run_stuck code old k first before steps left less is follows none st shows =
    let here = follows st shows in
    subst IsStuck (sym (here.2 ∙ ap (λ (n : ℕ). after code n here.0) is)) (stuck_now code less k first before here.0 none here.1)

-- where the run lacks no step, something comes behind what the machine shows
pub comes_next : (code : Code) (old k : Machine) (first before : Option (List ℕ)) (steps left less : ℕ) → left ≡ suc less → Follows code old k first before steps left → HasSteps code old steps → HasNoNext (next_in code) k → ⊥
comes_next code old k first before steps left less is follows has none = has.2 (run_stuck code old k first before steps left less is follows none has.0 has.1)

pub rose_later : (a b c : ℕ) → a ≤ b → Rose b c → Rose a c
rose_later a b c later (inl more) = inl (omega arith)
rose_later a b c later (inr last) = inr last

nothing_front : (first : Option (List ℕ)) (bytes : List ℕ) → TookFront first first bytes
nothing_front first bytes = record { count = 0; within = omega arith; took = nothing_taken first (take 0 bytes) refl }

-- where a run didn't start, nothing was printed
pub no_front : (first : Option (List ℕ)) (st : State) → PrintsFront first first st
no_front first (Runs fr callers out) = nothing_front first out
no_front first (Ended v out) = nothing_front first out
no_front first Stuck = tt
