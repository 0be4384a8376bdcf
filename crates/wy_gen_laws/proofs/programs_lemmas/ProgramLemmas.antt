-- The run of the code of a program goes beside its evaluation.
use Rattle.std.proofs.Common.{◌≡◌, ◌<◌, ◌≤◌, ◌⊎◌, inl, inr, ℕ, zero, suc, ◌+◌, ◌-◌, ◌*◌, List, [], ◌∷◌, ◌++◌, length, Bool, true, cond, nat_eq, Option, Some, refl, sym, ◌∙◌, ap, subst, arith}
use Rattle.std.specs.Prelude.{◌≢◌, slice_get, is_some}
use Rattle.std.proofs.lemmas.Bool.{cases_lt}
use Rattle.std.proofs.lemmas.Bool.Decides.{nat_tests}
use Rattle.wy_value.specs.Datum.{Datum}
use Rattle.wy_core.specs.CoreTree.{Routine, Core, aliases_of, routines_of}
use Rattle.wy_core.specs.formed.Offers.{offers_of}
use Rattle.wy_core.specs.formed.Formed.{Formed}
use Rattle.wy_code.specs.declared.routines.Code.{Code}
use Rattle.wy_code.specs.declared.routines.Routine as routines
use Rattle.wy_code_spec.specs.declared.tables.targets.Target.TheVariants as target
use Rattle.wy_code_spec.specs.tables.Tables as tables
use Rattle.wy_code_spec.specs.tables.Tables.{context_of, results_of}
use Rattle.wy_code_spec.specs.compiled.Programs.{body_routine, body_routines, type_routines, code_of}
use Rattle.wy_vc_spec.specs.wy_sem.kept.Kept.{ListProper}
use Rattle.wy_vc_spec.specs.wy_sem.Meter.{Meter, Outcome, Done, Fault, More, Spent}
use Rattle.wy_vc_spec.specs.wy_sem.Operations.{or_null}
use Rattle.wy_vc_spec.specs.wy_sem.Evaluation as evaluation
use Rattle.wy_vc_spec.specs.wy_sem.Evaluation.{callee, Declared, place_of, evaluate}
use Rattle.wy_vc_spec.specs.wy_sem.Growth.{Begins, output_of}
use Rattle.wy_vc_spec.proofs.wy_sem_proofs.Limits.{limit_is_exact}
use Rattle.wy_code_spec.specs.step.Step.{State, Runs, Ended, Stuck, entered, entry_registers, start, after}
use Rattle.wy_gen_laws.specs.Follows.{Follows, IsGoing, at_place}
use Rattle.wy_gen_laws.specs.tests.Tested.{ClausesNameTheirs}
use Rattle.wy_gen_laws.specs.statements.Led.{Left}
use Rattle.wy_gen_laws.specs.statements.Routines.{CallsNest}
use Rattle.wy_gen_laws.proofs.statements_lemmas.RoutineLemmas.{routines_followed}
use Rattle.wy_gen_laws.specs.programs.Programs.{AllInOrder, NoFault, printed, IsStuck, run_of, EndsWith, IsDone, PrintsThat, RunsBeside, ProgramsAreSimulated}
use Rattle.wy_gen_laws.proofs.programs_lemmas.RunLemmas.{begins_itself, prints_more, stays_ended, stays_stuck}
use Rattle.wy_gen_laws.proofs.programs_lemmas.FitLemmas.{wide_of, program_fits}

-- ---- what a number calls

declared_target : (rs : List (Routine ℕ)) (f : ℕ) (r : Routine ℕ) → callee rs f ≡ Declared r → tables.target (results_of rs) f ≡ target.Declared (is_some r.result)
declared_target [] zero r e = absurd cc
declared_target [] (suc zero) r e = absurd cc
declared_target [] (suc (suc f)) r e = absurd cc
declared_target (q ∷ rs) zero r e = let is : q ≡ r = cc in ap (λ (x : Routine ℕ). target.Declared (is_some x.result)) is
declared_target (q ∷ rs) (suc f) r e = declared_target rs f r e

module _ (core : Core ℕ) where
  declared_code : (rs : List (Routine ℕ)) (f : ℕ) (r : Routine ℕ) → callee rs f ≡ Declared r → slice_get (body_routines (context_of core) rs ++ type_routines (context_of core) (aliases_of core)) f ≡ Some (body_routine (context_of core) r)
  declared_code [] zero r e = absurd cc
  declared_code [] (suc zero) r e = absurd cc
  declared_code [] (suc (suc f)) r e = absurd cc
  declared_code (q ∷ rs) zero r e = let is : q ≡ r = cc in ap (λ (x : Routine ℕ). Some (body_routine (context_of core) x)) is
  declared_code (q ∷ rs) (suc f) r e = declared_code rs f r e

-- ---- a tick first

one_tick : (code : Code) (wide low : ℕ) (m k : Meter) (st : State) (o : Outcome (Option Datum)) (Q : Option Datum → Meter → State → Type 0) → m.ticks ≡ suc k.ticks → low < wide → Follows code wide low 4 k st o Q → Follows code wide wide 0 m st o Q
one_tick code wide low m k st (Done v l) Q e less h = record { steps = h.steps; spent = suc h.spent; total = let t = h.total in omega (arith, t, e); least = let t = h.least in omega (arith, t, less); most = let t = h.most in omega (arith, t); there = h.there }
one_tick code wide low m k st (Fault kind at l) Q e less h = tt
one_tick code wide low m k st (More l) Q e less h = record { steps = h.steps; least = let t = h.least in omega (arith, t, e, less); most = let t = h.most in omega (arith, t, e); going = h.going }
one_tick code wide low m k st Spent Q e less h = tt

-- ---- a run that follows an evaluation that is no fault

-- where the evaluation is done the run has ended, and where it isn't the run goes on
record Followed (code : Code) (wide k : ℕ) (st : State) (o : Outcome (Option Datum)) : Type 0 where
  pub ends : (v : Option Datum) (m : Meter) → o ≡ Done v m → (n : ℕ) × (n + 16 * m.ticks ≤ 16 * k) × (after code n st ≡ Ended (or_null v) m.output)
  pub goes : (m : Meter) → o ≡ More m → (n : ℕ) × (k ≤ wide * n + wide) × (n ≤ 16 * k) × IsGoing m.output (after code n st)

followed : (code : Code) (wide k : ℕ) (st : State) (m : Meter) (o : Outcome (Option Datum)) → m.ticks ≡ k → Follows code wide wide 0 m st o (Left []) → Followed code wide k st o
followed code wide k st m (Done v l) e h = record {
  ends = λ u i is. by u i is;
  goes = λ i is. absurd cc;
}
  where
    by : (u : Option Datum) (i : Meter) → Done v l ≡ Done u i → (n : ℕ) × (n + 16 * i.ticks ≤ 16 * k) × (after code n st ≡ Ended (or_null u) i.output)
    by u i is =
        let value : v ≡ u = cc in
        let meter : l ≡ i = cc in
        let same : l.ticks ≡ i.ticks = ap (λ (x : Meter). x.ticks) meter in
        let t = h.total in
        let s = h.most in
        (h.steps, omega (arith, t, s, e, same), h.there.is ∙ ap (λ (x : Option Datum). Ended (or_null x) l.output) value ∙ ap (λ (x : Meter). Ended (or_null u) x.output) meter)
followed code wide k st m (Fault kind at l) e h = record { ends = λ u i is. absurd cc; goes = λ i is. absurd cc }
followed code wide k st m (More l) e h = record {
  ends = λ u i is. absurd cc;
  goes = λ i is.
      let meter : l ≡ i = cc in
      let a = h.least in
      let b = h.most in
      (h.steps, omega (arith, a, e), omega (arith, b, e), subst (λ (x : Meter). IsGoing x.output (after code h.steps st)) meter h.going);
}
followed code wide k st m Spent e h = record { ends = λ u i is. absurd cc; goes = λ i is. absurd cc }

going_free : (output : List ℕ) (st : State) → IsGoing output st → IsStuck st → ⊥
going_free output (Runs fr callers out) h s = s
going_free output (Ended v out) h s = h
going_free output Stuck h s = h

going_printed : (output : List ℕ) (st : State) → IsGoing output st → printed st ≡ output
going_printed output (Runs fr callers out) h = h
going_printed output (Ended v out) h = absurd h
going_printed output Stuck h = absurd h

going_unended : (output : List ℕ) (st : State) (v : Datum) (out : List ℕ) → IsGoing output st → st ≡ Ended v out → ⊥
going_unended output (Runs fr callers o) v out h e = absurd cc
going_unended output (Ended u o) v out h e = h
going_unended output Stuck v out h e = h

ended_free : (st : State) (v : Datum) (out : List ℕ) → st ≡ Ended v out → IsStuck st → ⊥
ended_free (Runs fr callers o) v out e s = s
ended_free (Ended u o) v out e s = s
ended_free Stuck v out e s = absurd cc

-- ---- both directions

longer_times : (w s d : ℕ) → w * s ≤ w * (s + d)
longer_times w s d = omega arith

times_more : (w s n : ℕ) → s < n → w * s ≤ w * n
times_more w s n less = let e : s + (n - s) ≡ n = omega (arith, less) in subst (λ (x : ℕ). w * s ≤ w * x) e (longer_times w s (n - s))

module _ (place : ℕ → ℕ) (core : Core ℕ) (f : ℕ) (vs : List Datum) (wide : ℕ) (fine : (k : ℕ) → NoFault (evaluate place core f vs k)) (unspent : (k : ℕ) → evaluate place core f vs k ≢ Spent)
    (runs : (k : ℕ) → Followed (code_of core) wide k (start (code_of core) f vs) (evaluate place core f vs k)) where
  abbrev first : State
  first = start (code_of core) f vs

  -- the evaluation is done, or ticks ran out
  abbrev DoneAt : ℕ → Type 0
  DoneAt k = (v : Option Datum) × (m : Meter) × (evaluate place core f vs k ≡ Done v m)

  abbrev MoreAt : ℕ → Type 0
  MoreAt k = (m : Meter) × (evaluate place core f vs k ≡ More m)

  case_of : (k : ℕ) → DoneAt k ⊎ MoreAt k
  case_of k = by (evaluate place core f vs k) refl
    where
      by : (o : Outcome (Option Datum)) → evaluate place core f vs k ≡ o → DoneAt k ⊎ MoreAt k
      by (Done v m) e = inl (v, m, e)
      by (More m) e = inr (m, e)
      by (Fault kind at m) e = absurd (subst (λ (o : Outcome (Option Datum)). NoFault o) e (fine k))
      by Spent e = absurd (unspent k e)

  abbrev at_step : ℕ → State
  at_step n = after (code_of core) n first

  -- so many ticks that the run of the evaluation has at least so many steps
  abbrev enough : ℕ → ℕ
  enough n = suc (wide * n + wide)

  longer : (n k steps : ℕ) → enough n ≤ k → k ≤ wide * steps + wide → n ≤ steps
  longer n k steps a b = by (cases_lt steps n)
    where
      by : (steps < n) ⊎ (n ≤ steps) → n ≤ steps
      by (inr le) = le
      by (inl less) = absurd (let h = times_more wide steps n less in omega (arith, h, a, b))

  -- where the run has ended there is a step, or nothing more to do
  ended_fine : (n s : ℕ) (v : Datum) (out : List ℕ) → at_step s ≡ Ended v out → IsStuck (at_step n) → ⊥
  ended_fine n s v out is stuck = by (cases_lt s n)
    where
      by : (s < n) ⊎ (n ≤ s) → ⊥
      by (inl less) = ended_free (at_step n) v out (stays_ended (code_of core) s n first v out (omega (arith, less)) is) stuck
      by (inr le) = ended_free (at_step s) v out is (stays_stuck (code_of core) n s first le stuck)

  never_stuck : (n : ℕ) → IsStuck (run_of core f vs n) → ⊥
  never_stuck n stuck = by (case_of (enough n))
    where
      by : DoneAt (enough n) ⊎ MoreAt (enough n) → ⊥
      by (inl d) = let h = (runs (enough n)).ends d.0 d.1 d.2 in ended_fine n h.0 (or_null d.0) d.1.output h.2 stuck
      by (inr d) =
          let h = (runs (enough n)).goes d.0 d.1 in
          going_free d.0.output (at_step h.0) h.3 (stays_stuck (code_of core) n h.0 first (longer n (enough n) h.0 (omega arith) h.1) stuck)

  ends_so : (k : ℕ) (v : Option Datum) (m : Meter) → evaluate place core f vs (m.ticks + k) ≡ Done v m → EndsWith core f vs (16 * k + 16) (or_null v) m.output
  ends_so k v m e = let h = (runs (m.ticks + k)).ends v m e in let l = h.1 in record { steps = h.0; most = omega (arith, l); is = h.2 }

  both_ended : (n s : ℕ) (u v : Datum) (a b : List ℕ) → at_step n ≡ Ended u a → at_step s ≡ Ended v b → Ended u a ≡ Ended v b
  both_ended n s u v a b e g = by (cases_lt n s)
    where
      by : (n < s) ⊎ (s ≤ n) → Ended u a ≡ Ended v b
      by (inl less) = sym (stays_ended (code_of core) n s first u a (omega (arith, less)) e) ∙ g
      by (inr le) = sym e ∙ stays_ended (code_of core) s n first v b le g

  only_so : (n : ℕ) (v : Datum) (output : List ℕ) → run_of core f vs n ≡ Ended v output → IsDone place core f vs v output
  only_so n v output e = by (case_of (enough n))
    where
      by : DoneAt (enough n) ⊎ MoreAt (enough n) → IsDone place core f vs v output
      by (inl d) =
          let h = (runs (enough n)).ends d.0 d.1 d.2 in
          let same : Ended (or_null d.0) d.1.output ≡ Ended v output = both_ended h.0 n (or_null d.0) v d.1.output output h.2 e in
          record { ticks = enough n; value = d.0; meter = d.1; done = d.2; is = cc; same = cc }
      by (inr d) =
          let h = (runs (enough n)).goes d.0 d.1 in
          absurd (going_unended d.0.output (at_step h.0) v output h.3 (stays_ended (code_of core) n h.0 first v output (longer n (enough n) h.0 (omega arith) h.1) e))

  -- what the evaluation has printed is what the run has, where the run follows it
  done_printed : (k : ℕ) (d : DoneAt k) (s : ℕ) → at_step s ≡ Ended (or_null d.0) d.1.output → output_of (evaluate place core f vs k) ≡ printed (at_step s)
  done_printed k d s is = ap (λ (o : Outcome (Option Datum)). output_of o) d.2 ∙ sym (ap (λ (t : State). printed t) is)

  more_printed : (k : ℕ) (d : MoreAt k) (s : ℕ) → IsGoing d.0.output (at_step s) → output_of (evaluate place core f vs k) ≡ printed (at_step s)
  more_printed k d s is = ap (λ (o : Outcome (Option Datum)). output_of o) d.1 ∙ sym (going_printed d.0.output (at_step s) is)

  prints_so : (k : ℕ) → Begins (output_of (evaluate place core f vs k)) (printed (run_of core f vs (16 * k + 16)))
  prints_so k = by (case_of k)
    where
      front : (s : ℕ) → s ≤ 16 * k + 16 → output_of (evaluate place core f vs k) ≡ printed (at_step s) → Begins (output_of (evaluate place core f vs k)) (printed (run_of core f vs (16 * k + 16)))
      front s le out = subst (λ (l : List ℕ). Begins l (printed (run_of core f vs (16 * k + 16)))) (sym out) (prints_more (code_of core) s (16 * k + 16) first le (never_stuck (16 * k + 16)))

      by : DoneAt k ⊎ MoreAt k → Begins (output_of (evaluate place core f vs k)) (printed (run_of core f vs (16 * k + 16)))
      by (inl d) = let h = (runs k).ends d.0 d.1 d.2 in let few = h.1 in front h.0 (omega (arith, few)) (done_printed k d h.0 h.2)
      by (inr d) = let h = (runs k).goes d.0 d.1 in let few = h.2 in front h.0 (omega (arith, few)) (more_printed k d h.0 h.3)

  -- behind any number of steps of a run that ended the output is a front of the last
  ended_printed : (n s : ℕ) (v : Datum) (out : List ℕ) → at_step s ≡ Ended v out → Begins (printed (at_step n)) out
  ended_printed n s v out is = by (cases_lt s n)
    where
      by : (s < n) ⊎ (n ≤ s) → Begins (printed (at_step n)) out
      by (inl less) = subst (λ (l : List ℕ). Begins l out) (sym (ap (λ (t : State). printed t) (stays_ended (code_of core) s n first v out (omega (arith, less)) is))) (begins_itself out)
      by (inr below) = subst (λ (l : List ℕ). Begins (printed (at_step n)) l) (ap (λ (t : State). printed t) is) (prints_more (code_of core) n s first below (never_stuck s))

  printed_so : (n : ℕ) → PrintsThat place core f vs (printed (run_of core f vs n))
  printed_so n = record { ticks = enough n; from_there = λ k le. by k le (case_of k) }
    where
      by : (k : ℕ) → enough n ≤ k → DoneAt k ⊎ MoreAt k → Begins (printed (run_of core f vs n)) (output_of (evaluate place core f vs k))
      by k le (inl d) =
          let h = (runs k).ends d.0 d.1 d.2 in
          subst (λ (l : List ℕ). Begins (printed (run_of core f vs n)) l) (sym (ap (λ (o : Outcome (Option Datum)). output_of o) d.2)) (ended_printed n h.0 (or_null d.0) d.1.output h.2)
      by k le (inr d) =
          let h = (runs k).goes d.0 d.1 in
          subst (λ (l : List ℕ). Begins (printed (run_of core f vs n)) l) (sym (more_printed k d h.0 h.3)) (prints_more (code_of core) n h.0 first (longer n k h.0 le h.1) (never_stuck h.0))

  all_beside : RunsBeside place core f vs
  all_beside = record { goes = never_stuck; ends = ends_so; only = only_so; prints = prints_so; printed_too = printed_so }

-- ---- the law

module _ (place : ℕ → ℕ) (core : Core ℕ) (formed : Formed core) (order : AllInOrder (routines_of core)) (names : ClausesNameTheirs core) (f : ℕ) (r : Routine ℕ) (vs : List Datum) (is : callee (routines_of core) f ≡ Declared r) (many : length vs ≡ length r.params) (proper : ListProper vs) where
  same_is : (a b : ℕ) → a ≡ b → nat_eq a b ≡ true
  same_is a b e = grind (arith, nat_tests)

  -- at entry
  first_state : start (code_of core) f vs ≡ at_place f 0 (entry_registers (body_routine (context_of core) r) vs) [] []
  first_state =
      ap (λ (o : Option routines.Routine). entered o f vs [] []) (declared_code core (routines_of core) f r is)
      ∙ ap (λ (b : Bool). cond b (at_place f 0 (entry_registers (body_routine (context_of core) r) vs) [] []) Stuck) (same_is (length vs) (length r.params) many)

  calls : (k : ℕ) → CallsNest place core (wide_of core) (suc k) k
  calls k = routines_followed place core (offers_of core) (wide_of core) (program_fits place core formed names order) (suc k) k (omega arith)

  entry_follows : (k : ℕ) → Follows (code_of core) (wide_of core) (wide_of core) 0 (evaluation.start k) (start (code_of core) f vs) (evaluate place core f vs k) (Left [])
  entry_follows zero =
      subst (λ (o : Outcome (Option Datum)). Follows (code_of core) (wide_of core) (wide_of core) 0 (evaluation.start 0) (start (code_of core) f vs) o (Left []))
      (sym ((calls 0).none f (place_of (callee (routines_of core) f)) vs (evaluation.start 0) (omega arith) refl))
      (record { steps = 0; least = omega arith; most = omega arith; going = subst (λ (s : State). IsGoing [] s) (sym first_state) refl })
  entry_follows (suc k) =
      let run = (calls (suc k)).routines_follow f (place_of (callee (routines_of core) f)) (is_some r.result) vs [] (evaluation.start (suc k)) k (declared_target (routines_of core) f r is) refl (omega arith) proper in
      one_tick (code_of core) (wide_of core) run.low (evaluation.start (suc k)) (record (evaluation.start (suc k)) { ticks = k }) (start (code_of core) f vs) (evaluate place core f vs (suc k)) (Left []) refl run.less run.follows

pub programs_simulated : ProgramsAreSimulated
programs_simulated place core formed order names f r vs is many proper fine =
    all_beside place core f vs (wide_of core) fine (λ k. (limit_is_exact place core f vs 0).evaluation_unspent k)
    (λ k. followed (code_of core) (wide_of core) k (start (code_of core) f vs) (evaluation.start k) (evaluate place core f vs k) refl (entry_follows place core formed order names f r vs is many proper k))
