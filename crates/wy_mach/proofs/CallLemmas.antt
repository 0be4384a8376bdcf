-- What calls and returns do to the heap and to what the machine shows.
use Rattle.std.proofs.Common.{◌≡◌, inl, inr, ℕ, zero, suc, ◌+◌, ◌-◌, ◌<◌, ◌≤◌, List, [], ◌∷◌, ◌++◌, length, get_or, set, reverse, Bool, true, false, cond, Option, Some, None, refl, sym, ◌∙◌, ap, subst, arith}
use Rattle.std.specs.Prelude.{Result, Ok, Err, IfOk, OnOk, nat_eq, slice_get}
use Rattle.std.proofs.lemmas.List.{append-nil, reverse-append}
use Rattle.std.proofs.lemmas.Bool.Decides.{nat_tests}
use Rattle.wy_value.specs.Datum.{Datum}
use Rattle.wy_value.specs.Seen.{data_of}
use Rattle.wy_value.specs.Values.{length_of}
use Rattle.wy_heap.specs.declared.part.Part.{Part}
use Rattle.wy_heap.specs.declared.part.Part.TheVariants as part
use Rattle.wy_heap.specs.declared.heap.Heap.{Heap}
use Rattle.wy_heap.specs.Nodes.{Map, map_of, holds, held, size}
use Rattle.wy_heap.specs.Meaning.{Means, MeanAll}
use Rattle.wy_heap.specs.Standing.{Stands, Acts, Keeps}
use Rattle.wy_heap.specs.Changing.{Lasts}
use Rattle.wy_heap.proofs.CountLemmas.{held-append}
use Rattle.wy_heap.proofs.RowLemmas.{restood}
use Rattle.wy_heap.proofs.MeaningLemmas.{mean_all-length}
use Rattle.wy_code.specs.declared.instructions.Instr.TheVariants as instr
use Rattle.wy_code.specs.declared.routines.Routine.{Routine}
use Rattle.wy_code.specs.declared.routines.Code.{Code}
use Rattle.wy_sem.specs.Expressions.{Store, slot, put}
use Rattle.wy_code_spec.specs.step.Step.{Frame, Caller, State, Effect, Calls, Returns, Stuck, Runs, stepped, entered, returned, moved_all, holding, empties}
use Rattle.wy_mach.specs.Showing.{Shows}
use Rattle.wy_mach.specs.Taking.{taken, emptied, AreWithin, nulls}
use Rattle.wy_mach.proofs.EffectLemmas.{by_there}
use Rattle.wy_mach.proofs.RegisterLemmas.{shows_kept, keeps_fewer, shows_put, shows_slot, slot_within, taken_out, among_first}
use Rattle.wy_mach.proofs.RecordLemmas.{length-taken}
use Rattle.wy_mach.proofs.TakeLemmas.{took, taken_stands, beyond_fails}
use Rattle.wy_mach.specs.declared.frames.Caller as of_callers
use Rattle.wy_mach.specs.declared.machine.Machine.{Machine}
use Rattle.wy_mach.specs.declared.machine.Turn.{Turn}
use Rattle.wy_mach.specs.declared.machine.Turn.TheVariants as turn
use Rattle.wy_mach.specs.States.{places_below, places_of, callers_of, ShowsCaller, ShowsCallers, ShowsState}
use Rattle.wy_mach.specs.Running.{Reaches, EndsWith, Steps, HasNoNext, HasTextOf, LeavesResult, Turned, Enters, Resumes, IsEnd, next_by}
use Rattle.wy_mach.proofs.StateLemmas.{callers_kept, nothing_taken}

-- ---- `Call`

-- what follows of a call, from what follows where its arguments are there
call_by : (P : State → Type 0) (code : Code) (old : Machine) (d f : ℕ) (rs : List ℕ) (fr : Frame) (callers : List Caller) (output : List ℕ) → ShowsState old fr callers → P Stuck
    → ((vs : List Datum) (rest : Store) → MeanAll (map_of old.heap) (data_of vs) (taken old.frame.registers.items rs) → Shows (map_of old.heap) rest (emptied old.frame.registers.items rs) → P (stepped code fr callers output (Calls d f vs rest)))
    → P (stepped code fr callers output (moved_all fr.registers rs (λ vs rest. Calls d f vs rest)))
call_by P code old d f rs fr callers output shows fails goes = elim (took (map_of old.heap) fr.registers old.frame.registers.items rs (λ vs rest. Calls d f vs rest) shows.frame.registers) [
  | inl none ↦ subst (λ (e : Effect). P (stepped code fr callers output e)) (sym none) fails
  | inr t ↦ subst (λ (e : Effect). P (stepped code fr callers output e)) (sym t.effect_is) (goes t.data_in t.rest t.mean t.shows)
]

-- a routine that isn't there
pub no_routine : (code : Code) (old : Machine) (d f : ℕ) (rs : List ℕ) → slice_get code.routines f ≡ None → HasNoNext (next_by code (instr.Call d f rs)) old
no_routine code old d f rs none fr callers output shows =
    call_by (λ (st : State). st ≡ Stuck) code old d f rs fr callers output shows refl
    (λ vs rest mean shown. ap (λ (o : Option Routine). entered o f vs (record { frame = record fr { at = fr.at + 1; registers = rest }; target = d } ∷ callers) output) none)

data_of-length : (vs : List Datum) → length_of (data_of vs) ≡ length vs
data_of-length [] = refl
data_of-length (v ∷ vs) = omega (arith, data_of-length vs)

as_many : (m : Map) (vs : List Datum) (ps : List Part) (rs : List ℕ) → MeanAll m (data_of vs) (taken ps rs) → length vs ≡ length rs
as_many m vs ps rs mean = omega (arith, mean_all-length m (data_of vs) (taken ps rs) mean, length-taken ps rs, data_of-length vs)

not_so_many : (f : ℕ) (r : Routine) (vs : List Datum) (callers : List Caller) (output : List ℕ) → nat_eq (length vs) r.params ≡ false → entered (Some r) f vs callers output ≡ Stuck
not_so_many f r vs callers output is =
    ap (λ (b : Bool). cond b (Runs (record { routine = f; at = 0; registers = holding vs ++ empties (r.registers - length vs) }) callers output) Stuck) is

differ : (m n : ℕ) → (m ≡ n → ⊥) → nat_eq m n ≡ false
differ m n apart = grind (arith, nat_tests, apart)

pub alike : (m n : ℕ) → m ≡ n → nat_eq m n ≡ true
alike m n same = grind (arith, nat_tests)

-- a routine that takes another count of arguments
pub other_count : (code : Code) (old : Machine) (d f : ℕ) (rs : List ℕ) (r : Routine) → slice_get code.routines f ≡ Some r → (length rs ≡ r.params → ⊥) → HasNoNext (next_by code (instr.Call d f rs)) old
other_count code old d f rs r is apart fr callers output shows =
    call_by (λ (st : State). st ≡ Stuck) code old d f rs fr callers output shows refl
    (λ vs rest mean shown.
    let all = record { frame = record fr { at = fr.at + 1; registers = rest }; target = d } ∷ callers in
    ap (λ (o : Option Routine). entered o f vs all output) is
    ∙ not_so_many f r vs all output (differ (length vs) r.params (λ same. apart (sym (as_many (map_of old.heap) vs old.frame.registers.items rs mean) ∙ same))))

-- an argument whose register isn't there
pub no_argument : (code : Code) (old : Machine) (d f : ℕ) (rs : List ℕ) → (AreWithin (length old.frame.registers.items) rs → ⊥) → HasNoNext (next_by code (instr.Call d f rs)) old
no_argument code old d f rs beyond fr callers output shows =
    ap (stepped code fr callers output) (beyond_fails (map_of old.heap) fr.registers old.frame.registers.items rs (λ vs rest. Calls d f vs rest) shows.frame.registers beyond)

-- the caller that was pushed comes first
pub pushed : (fs : List of_callers.Caller) (c : of_callers.Caller) (all : List of_callers.Caller) → all ≡ fs ++ c ∷ [] → reverse all ≡ c ∷ reverse fs
pushed fs c all is = ap reverse is ∙ reverse-append fs (c ∷ [])

-- the machine behind a call
entered_shows : (old mid new : Machine) (f to : ℕ) (rs : List ℕ) (r : Routine) (arguments : List Part) (fr : Frame) (callers : List Caller) (vs : List Datum) (rest : Store) → mid.heap ≡ old.heap → mid.frame.routine ≡ old.frame.routine → mid.frame.at ≡ old.frame.at → mid.frame.registers.items ≡ emptied old.frame.registers.items rs → mid.callers.items ≡ old.callers.items → arguments ≡ taken old.frame.registers.items rs → Enters mid new f to r.registers arguments → ShowsState old fr callers
    → MeanAll (map_of old.heap) (data_of vs) (taken old.frame.registers.items rs) → Shows (map_of old.heap) rest (emptied old.frame.registers.items rs)
    → ShowsState new (record { routine = f; at = 0; registers = holding vs ++ empties (r.registers - length vs) }) (record { frame = record fr { at = fr.at + 1; registers = rest }; target = to } ∷ callers)
entered_shows old mid new f to rs r arguments fr callers vs rest heap routine at left callers_are are enters shows mean shown =
    let m = map_of old.heap in
    let same : map_of new.heap ≡ m = ap map_of (enters.heap ∙ heap) in
    let waiting : of_callers.Caller = record { frame = record mid.frame { at = mid.frame.at + 1 }; target = to } in
    let order : callers_of new ≡ waiting ∷ callers_of old = pushed mid.callers.items waiting new.callers.items enters.callers ∙ ap (λ (l : List of_callers.Caller). waiting ∷ reverse l) callers_are in
    let first : ShowsCaller m (record { frame = record fr { at = fr.at + 1; registers = rest }; target = to }) waiting = record {
      target = refl;
      frame = record {
        routine = routine ∙ shows.frame.routine;
        at = ap (λ (n : ℕ). n + 1) (at ∙ shows.frame.at);
        registers = subst (Shows m rest) (sym left) shown;
      };
    } in
    record {
      frame = record {
        routine = enters.routine;
        at = enters.at;
        registers = enters.shows (map_of new.heap) vs (subst (λ (n : Map). MeanAll n (data_of vs) arguments) (sym same) (subst (MeanAll m (data_of vs)) (sym are) mean));
      };
      callers = subst (λ (n : Map). ShowsCallers n (record { frame = record fr { at = fr.at + 1; registers = rest }; target = to } ∷ callers) (callers_of new)) (sym same)
          (subst (ShowsCallers m (record { frame = record fr { at = fr.at + 1; registers = rest }; target = to } ∷ callers)) (sym order) (first, shows.callers));
    }

pub call_steps : (code : Code) (old mid new : Machine) (before : Option (List ℕ)) (d f : ℕ) (rs : List ℕ) (r : Routine) (arguments : List Part) → slice_get code.routines f ≡ Some r → length rs ≡ r.params → mid.heap ≡ old.heap → mid.frame.routine ≡ old.frame.routine → mid.frame.at ≡ old.frame.at → mid.frame.registers.items ≡ emptied old.frame.registers.items rs → mid.callers.items ≡ old.callers.items → arguments ≡ taken old.frame.registers.items rs → Enters mid new f d r.registers arguments
    → Steps (next_by code (instr.Call d f rs)) old new before before
call_steps code old mid new before d f rs r arguments is many heap routine at left callers_are are enters fr callers output shows =
    call_by (Reaches new before before output) code old d f rs fr callers output shows tt
    (λ vs rest mean shown.
    let all = record { frame = record fr { at = fr.at + 1; registers = rest }; target = d } ∷ callers in
    let so = alike (length vs) r.params (as_many (map_of old.heap) vs old.frame.registers.items rs mean ∙ many) in
    let shows_new = entered_shows old mid new f d rs r arguments fr callers vs rest heap routine at left callers_are are enters shows mean shown in
    subst (λ (o : Option Routine). Reaches new before before output (entered o f vs all output)) (sym is)
    (subst (λ (b : Bool). Reaches new before before output (cond b (Runs (record { routine = f; at = 0; registers = holding vs ++ empties (r.registers - length vs) }) all output) Stuck)) (sym so)
    (shows_new, ([], sym (append-nil output), nothing_taken before [] refl))))

-- ---- the places of a call

pub taken_places : (old mid : Machine) (rs : List ℕ) (arguments : List Part) → AreWithin (length old.frame.registers.items) rs → mid.heap ≡ old.heap → mid.frame.registers.items ≡ emptied old.frame.registers.items rs → mid.callers.items ≡ old.callers.items → arguments ≡ taken old.frame.registers.items rs → Stands old.heap (places_of old) → Stands mid.heap (arguments ++ places_of mid)
taken_places old mid rs arguments within heap left callers_are are stands =
    let below = places_below (callers_of old) in
    let first = taken_stands old.heap old.frame.registers.items below rs within stands in
    subst (λ (h : Heap). Stands h (arguments ++ places_of mid)) (sym heap)
    (subst (λ (l : List of_callers.Caller). Stands old.heap (arguments ++ (mid.frame.registers.items ++ places_below (reverse l)))) (sym callers_are)
    (subst (λ (l : List Part). Stands old.heap (arguments ++ (l ++ below))) (sym left)
    (subst (λ (l : List Part). Stands old.heap (l ++ (emptied old.frame.registers.items rs ++ below))) (sym are) first)))

pub held-nulls : (k n : ℕ) → held k (nulls n) ≡ 0
held-nulls k zero = refl
held-nulls k (suc n) = omega (arith, held-nulls k n)

-- with a frame for the arguments, which is the last caller's callee
pub pushed_places : (old new : Machine) (arguments all : List Part) (n at to : ℕ) → all ≡ arguments ++ nulls n → new.heap ≡ old.heap → new.frame.registers.items ≡ all → new.callers.items ≡ old.callers.items ++ record { frame = record old.frame { at = at }; target = to } ∷ [] → Stands old.heap (arguments ++ places_of old) → Stands new.heap (places_of new)
pushed_places old new arguments all n at to is heap registers callers_are stands =
    let waiting : of_callers.Caller = record { frame = record old.frame { at = at }; target = to } in
    let order = pushed old.callers.items waiting new.callers.items callers_are in
    let below = places_of old in
    subst (λ (h : Heap). Stands h (places_of new)) (sym heap)
    (subst (λ (l : List of_callers.Caller). Stands old.heap (new.frame.registers.items ++ places_below l)) (sym order)
    (subst (λ (l : List Part). Stands old.heap (l ++ below)) (sym (registers ∙ is))
    (restood old.heap (arguments ++ below) ((arguments ++ nulls n) ++ below)
    (λ k. omega (arith, held-append k arguments below, held-append k (arguments ++ nulls n) below, held-append k arguments (nulls n), held-nulls k n)) stands)))

-- ---- `Return`

pub no_register : (code : Code) (old : Machine) (r : ℕ) → length old.frame.registers.items ≤ r → HasNoNext (next_by code (instr.Return r)) old
no_register code old r beyond fr callers output shows =
    by_there (λ (e : Effect). stepped code fr callers output e ≡ Stuck) (slot fr.registers r) Returns refl
    (λ v holds_v. absurd (omega (arith, slot_within (map_of old.heap) fr.registers old.frame.registers.items r v shows.frame.registers holds_v)))

-- the result came to the last caller
returned_reaches : (old new : Machine) (before : Option (List ℕ)) (caller : of_callers.Caller) (rest : List of_callers.Caller) (given : Part) (v : Datum) (callers : List Caller) (output : List ℕ) → callers_of old ≡ caller ∷ rest → callers_of new ≡ rest → new.frame.routine ≡ caller.frame.routine → new.frame.at ≡ caller.frame.at → new.frame.registers.items ≡ set caller.frame.registers.items caller.target given → Keeps (map_of old.heap) (map_of new.heap) (places_of new)
    → Means (map_of old.heap) v given → ShowsCallers (map_of old.heap) callers (caller ∷ rest) → Reaches new before before output (returned v callers output)
returned_reaches old new before caller rest given v [] output is left routine at registers keeps means shows = absurd (cc)
returned_reaches old new before caller rest given v (c ∷ cs) output is left routine at registers keeps means shows =
    let m = map_of old.heap in
    let n = map_of new.heap in
    let ps = new.frame.registers.items in
    let put_there : Shows m (put c.frame.registers caller.target (Some v)) (set caller.frame.registers.items caller.target given) = shows_put m c.frame.registers caller.frame.registers.items caller.target (Some v) given shows.0.frame.registers means in
    let here = keeps_fewer m n ps (places_of new) (λ k. omega (arith, held-append k ps (places_below (callers_of new)))) keeps in
    let below = keeps_fewer m n (places_below (callers_of new)) (places_of new) (λ k. omega (arith, held-append k ps (places_below (callers_of new)))) keeps in (
      record {
        frame = record {
          routine = routine ∙ shows.0.frame.routine;
          at = at ∙ shows.0.frame.at;
          registers = subst (λ (t : ℕ). Shows n (put c.frame.registers t (Some v)) ps) shows.0.target
              (shows_kept m n (put c.frame.registers caller.target (Some v)) ps here (subst (Shows m (put c.frame.registers caller.target (Some v))) (sym registers) put_there));
        };
        callers = callers_kept m n cs (callers_of new) below (subst (ShowsCallers m cs) (sym left) shows.1);
      },
      ([], sym (append-nil output), nothing_taken before [] refl),
    )

pub return_steps : (code : Code) (old mid new : Machine) (before : Option (List ℕ)) (r : ℕ) (caller : of_callers.Caller) (given : Part) → given ≡ get_or old.frame.registers.items r part.Null → mid.heap ≡ old.heap → old.callers.items ≡ mid.callers.items ++ caller ∷ [] → Resumes mid new caller given → Steps (next_by code (instr.Return r)) old new before before
return_steps code old mid new before r caller given is heap popped resumes fr callers output shows =
    by_there (λ (e : Effect). Reaches new before before output (stepped code fr callers output e)) (slot fr.registers r) Returns tt
    (λ v holds_v.
    let m = map_of old.heap in
    let order = pushed mid.callers.items caller old.callers.items popped in
    let means : Means m v given = subst (Means m v) (sym is) (shows_slot m fr.registers old.frame.registers.items r v shows.frame.registers holds_v) in
    returned_reaches old new before caller (callers_of mid) given v callers output order (ap reverse resumes.callers) resumes.routine resumes.at resumes.registers
    (subst (λ (h : Heap). Keeps (map_of h) (map_of new.heap) (places_of new)) heap resumes.keeps) means (subst (ShowsCallers m callers) order shows.callers))

-- the result ended the run
ended_with : (ends : Datum → Type 0) (m : Map) (fs : List of_callers.Caller) (v : Datum) (callers : List Caller) (output : List ℕ) → fs ≡ [] → ShowsCallers m callers fs → ends v → EndsWith ends output (returned v callers output)
ended_with ends m fs v [] output none shows so = (so, refl)
ended_with ends m [] v (c ∷ cs) output none shows so = absurd shows
ended_with ends m (f ∷ fs) v (c ∷ cs) output none shows so = absurd (cc)

done_by : (code : Code) (old mid : Machine) (before : Option (List ℕ)) (failed r : ℕ) (given : Part) (new : Machine) (t : Turn) → given ≡ get_or old.frame.registers.items r part.Null → mid.heap ≡ old.heap → mid.has_result ≡ old.has_result → old.callers.items ≡ [] → IsEnd mid given t → Turned (next_by code (instr.Return r)) old new before before failed failed t
done_by code old mid before failed r given new turn.Went is heap wanted none ends = absurd ends
done_by code old mid before failed r given new turn.OutFault is heap wanted none ends = absurd ends
done_by code old mid before failed r given new turn.Stuck is heap wanted none ends = absurd ends
done_by code old mid before failed r given new (turn.Done text copies nodes) is heap wanted none ends = (
  λ fr callers output shows.
      by_there (λ (e : Effect). EndsWith (λ v. HasTextOf old.has_result text v × LeavesResult old.heap copies nodes v) output (stepped code fr callers output e)) (slot fr.registers r) Returns tt
      (λ v holds_v.
      let m = map_of old.heap in
      let means : Means m v given = subst (Means m v) (sym is) (shows_slot m fr.registers old.frame.registers.items r v shows.frame.registers holds_v) in
      let so = ends v (subst (λ (h : Heap). Means (map_of h) v given) (sym heap) means) in
      ended_with (λ d. HasTextOf old.has_result text d × LeavesResult old.heap copies nodes d) m (callers_of old) v callers output (ap reverse none) shows.callers
      (subst (λ (b : Bool). HasTextOf b text v) wanted so.0, subst (λ (h : Heap). LeavesResult h copies nodes v) heap so.1)),
  refl,
)

pub end_turns : (code : Code) (old mid : Machine) (before : Option (List ℕ)) (failed r : ℕ) (given : Part) (new : Machine) (t : Turn) → given ≡ get_or old.frame.registers.items r part.Null → mid.heap ≡ old.heap → mid.has_result ≡ old.has_result → old.callers.items ≡ [] → IsEnd mid given t → Turned (next_by code (instr.Return r)) old new before before failed failed t
end_turns code old mid before failed r given new t is heap wanted none ends = done_by code old mid before failed r given new t is heap wanted none ends

-- ---- the places of a return

-- what a register held is beside all that is left
pub given_places : (old mid : Machine) (r : ℕ) (given : Part) → given ≡ get_or old.frame.registers.items r part.Null → r < length old.frame.registers.items → mid.heap ≡ old.heap → mid.frame.registers.items ≡ set old.frame.registers.items r part.Null → Stands old.heap (places_of old) → Stands mid.heap (given ∷ (mid.frame.registers.items ++ places_below (callers_of old)))
given_places old mid r given is below heap left stands =
    subst (λ (h : Heap). Stands h (given ∷ (mid.frame.registers.items ++ places_below (callers_of old)))) (sym heap)
    (subst (λ (l : List Part). Stands old.heap (given ∷ (l ++ places_below (callers_of old)))) (sym left)
    (taken_out old.heap given old.frame.registers.items (places_below (callers_of old)) r is below stands))

pub popped_places : (old mid : Machine) (caller : of_callers.Caller) (given : Part) → old.callers.items ≡ mid.callers.items ++ caller ∷ [] → Stands mid.heap (given ∷ (mid.frame.registers.items ++ places_below (callers_of old))) → Stands mid.heap (given ∷ (mid.frame.registers.items ++ (caller.frame.registers.items ++ places_below (callers_of mid))))
popped_places old mid caller given popped stands =
    subst (λ (l : List of_callers.Caller). Stands mid.heap (given ∷ (mid.frame.registers.items ++ places_below l))) (pushed mid.callers.items caller old.callers.items popped) stands

-- the frame that ended goes first
pub ended_first : (h : Heap) (given : Part) (ps others : List Part) → Stands h (given ∷ (ps ++ others)) → Stands h (ps ++ (given ∷ others))
ended_first h given ps others stands =
    restood h (given ∷ (ps ++ others)) (ps ++ (given ∷ others)) (λ k. omega (arith, held-append k ps others, held-append k ps (given ∷ others))) stands

held_set_le : (k : ℕ) (ps : List Part) (i : ℕ) (p : Part) → held k (set ps i p) ≤ holds k p + held k ps
held_set_le k [] i p = omega arith
held_set_le k (q ∷ ps) zero p = omega arith
held_set_le k (q ∷ ps) (suc i) p = omega (arith, held_set_le k ps i p)

set_within : (k : ℕ) (given : Part) (ps qs below : List Part) (to : ℕ) → qs ≡ set ps to given → held k (qs ++ below) ≤ held k (given ∷ (ps ++ below))
set_within k given ps qs below to is = omega (arith, held-append k qs below, held-append k ps below, ap (held k) is, held_set_le k ps to given)

-- what is in the caller's registers and below them is kept
pub resumed_keeps : (h n o : Heap) (given : Part) (ended ps qs below : List Part) (to : ℕ) → qs ≡ set ps to given → ((others : List Part) → Stands h (ended ++ others) → Acts h n [] others) → ((others : List Part) → Stands n (given ∷ (ps ++ others)) → Acts n o [] (qs ++ others)) → Stands h (given ∷ (ended ++ (ps ++ below))) → Stands o (qs ++ below) × Keeps (map_of h) (map_of o) (qs ++ below)
resumed_keeps h n o given ended ps qs below to is first second stands =
    let one = first (given ∷ (ps ++ below)) (ended_first h given ended (ps ++ below) stands) in
    let two = second below one.stands in
    (two.stands, λ q d among means. two.keeps q d among (keeps_fewer (map_of h) (map_of n) (qs ++ below) (given ∷ (ps ++ below)) (λ k. set_within k given ps qs below to is) one.keeps q d among means))

-- ---- the places at the end

-- the last frame's registers, and the result behind them
pub last_places : (old : Machine) (given : Part) → old.callers.items ≡ [] → Stands old.heap (given ∷ places_of old) → Stands old.heap (old.frame.registers.items ++ given ∷ [])
last_places old given none stands =
    ended_first old.heap given old.frame.registers.items []
    (subst (λ (l : List of_callers.Caller). Stands old.heap (given ∷ (old.frame.registers.items ++ places_below (reverse l)))) none stands)

-- what is left when the result alone is held
pub leaves_result : (h n : Heap) (given : Part) (ps : List Part) (copies nodes : ℕ) (d : Datum) → Stands h (ps ++ given ∷ []) → ((others : List Part) → Stands h (ps ++ others) → Acts h n [] others) → Lasts (map_of h) (map_of n) → nodes ≡ size (map_of n) → copies ≡ n.copies → n.copies ≡ h.copies → Means (map_of h) d given → LeavesResult h copies nodes d
leaves_result h n given ps copies nodes d stands acts lasts nodes_are copies_are no_more means =
    let after = acts (given ∷ []) stands in
    record {
      heap = n;
      place = given;
      stands = after.stands;
      means = after.keeps given d (among_first given []) means;
      lasts = lasts;
      nodes_are = nodes_are;
      copies_are = copies_are;
      no_more = no_more;
    }

pub result_means : (h n : Heap) (given : Part) (ps : List Part) (d : Datum) → Stands h (ps ++ given ∷ []) → ((others : List Part) → Stands h (ps ++ others) → Acts h n [] others) → Means (map_of h) d given → Means (map_of n) d given
result_means h n given ps d stands acts means = (acts (given ∷ []) stands).keeps given d (among_first given []) means

-- ---- releases of frames

pub popped_below : (h : Heap) (all rest : List of_callers.Caller) (c : of_callers.Caller) → all ≡ rest ++ c ∷ [] → Stands h (places_below (reverse all)) → Stands h (c.frame.registers.items ++ places_below (reverse rest))
popped_below h all rest c is stands = subst (λ (l : List of_callers.Caller). Stands h (places_below l)) (pushed rest c all is) stands

-- a machine that holds nothing
pub no_places : (h : Heap) (ps : List Part) (cs : List of_callers.Caller) → ps ≡ [] → cs ≡ [] → Stands h [] → Stands h (ps ++ places_below (reverse cs))
no_places h ps cs none nobody stands =
    subst (λ (l : List Part). Stands h (l ++ places_below (reverse cs))) (sym none)
    (subst (λ (l : List of_callers.Caller). Stands h ([] ++ places_below (reverse l))) (sym nobody) stands)

-- what follows of an answer that can only be one
pub entered_turned : {E : Type 0} (r : Result Turn E) (P : Type 0) (Q : Turn → Type 0) → (P → Q turn.Went) → OnOk r P → IfOk r (λ t. t ≡ turn.Went) → IfOk r Q
entered_turned (Ok t) P Q f p is = subst Q (sym is) (f p)
entered_turned (Err e) P Q f p is = tt
