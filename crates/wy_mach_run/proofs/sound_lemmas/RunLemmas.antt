-- The run of a sound program, put together from the law on its code.
use Rattle.std.proofs.Common.{◌≡◌, ◌<◌, ◌≤◌, ◌⊎◌, inl, inr, ℕ, ◌+◌, ◌*◌, List, Option, refl, sym, ◌∙◌, ap, subst, arith}
use Rattle.std.proofs.lemmas.Bool.{cases_lt}
use Rattle.wy_value.specs.Datum.{Datum}
use Rattle.wy_core.specs.CoreTree.{Core, Routine}
use Rattle.wy_code.specs.declared.routines.Code.{Code}
use Rattle.wy_gen_laws.specs.wy_code_spec.compiled.Programs.{code_of}
use Rattle.wy_gen_laws.specs.wy_sem.Meter.{Meter, Done}
use Rattle.wy_gen_laws.specs.wy_sem.Operations.{or_null}
use Rattle.wy_gen_laws.specs.wy_sem.Evaluation.{evaluate}
use Rattle.wy_gen_laws.specs.wy_sem.Growth.{Begins, output_of}
use Rattle.wy_gen_laws.specs.wy_code_spec.step.Step.{State, Runs, Ended, Stuck, Frame, Caller, start}
use Rattle.wy_gen_laws.specs.programs.Programs.{IsStuck, PrintsThat, RunsBeside, printed, run_of}
use Rattle.wy_gen_laws.proofs.programs_lemmas.RunLemmas.{begins_on, prints_more, stays_ended}
use Rattle.wy_gen_laws.proofs.programs_lemmas.ProgramLemmas.{programs_simulated}
use Rattle.wy_mach_run.specs.sound.Results.{IsFaultless}
use Rattle.wy_mach_run.specs.sound.Runs.{IsRight, RunsRightly, SoundProgramsRunRightly, run_by}

going_unended : (fr : Frame) (callers : List Caller) (output : List ℕ) (v : Datum) (out : List ℕ) → Runs fr callers output ≡ Ended v out → ⊥
going_unended fr callers output v out e = absurd cc

module _ (place : ℕ → ℕ) (core : Core ℕ) (f : ℕ) (r : Routine ℕ) (vs : List Datum) (beside : RunsBeside place core f vs) (sound : IsFaultless place core f r vs) where
  surely_so : (k : ℕ) (v : Option Datum) (m : Meter) → evaluate place core f vs (m.ticks + k) ≡ Done v m → (n : ℕ) → 16 * k + 16 ≤ n → run_of core f vs n ≡ Ended (or_null v) m.output
  surely_so k v m e n le =
      let h = beside.ends k v m e in
      let most = h.most in
      stays_ended (code_of core) h.steps n (start (code_of core) f vs) (or_null v) m.output (omega (arith, le, most)) h.is

  late_so : (n : ℕ) (fr : Frame) (callers : List Caller) (output : List ℕ) → run_of core f vs n ≡ Runs fr callers output → (k : ℕ) (v : Option Datum) (m : Meter) → evaluate place core f vs (m.ticks + k) ≡ Done v m → n < 16 * k + 16
  late_so n fr callers output is k v m e = by (cases_lt n (16 * k + 16))
    where
      by : (n < 16 * k + 16) ⊎ (16 * k + 16 ≤ n) → n < 16 * k + 16
      by (inl less) = less
      by (inr le) = absurd (going_unended fr callers output (or_null v) m.output (sym is ∙ surely_so k v m e n le))

  -- what the program prints at fewer ticks was printed
  printed_before : (n k : ℕ) → 16 * k + 16 ≤ n → Begins (output_of (evaluate place core f vs k)) (printed (run_of core f vs n))
  printed_before n k le =
      begins_on (output_of (evaluate place core f vs k)) (printed (run_of core f vs (16 * k + 16))) (printed (run_of core f vs n)) (beside.prints k)
      (prints_more (code_of core) (16 * k + 16) n (start (code_of core) f vs) le (beside.goes n))

  right_at : (n : ℕ) (st : State) → run_of core f vs n ≡ st → IsRight place core f r vs n st
  right_at n (Runs fr callers output) e = record {
    late = late_so n fr callers output e;
    front = subst (PrintsThat place core f vs) (ap printed e) (beside.printed_too n);
    behind = λ k le. subst (Begins (output_of (evaluate place core f vs k))) (ap printed e) (printed_before n k le);
  }
  right_at n (Ended v output) e =
      let d = beside.only n v output e in
      record { ticks = d.ticks; value = d.value; meter = d.meter; done = d.done; is = d.is; same = d.same; fulfils = sound.fulfils d.ticks d.value d.meter d.done }
  right_at n Stuck e = beside.goes n (subst IsStuck (sym e) tt)

  all_right : RunsRightly place core f r vs (run_of core f vs)
  all_right = record { goes = beside.goes; right = λ n. right_at n (run_of core f vs n) refl; surely = surely_so }

pub run_rightly : SoundProgramsRunRightly
run_rightly place core formed order names code is f r vs declared many proper sound =
    subst (λ (c : Code). RunsRightly place core f r vs (run_by c f vs)) (sym is)
    (all_right place core f r vs (programs_simulated place core formed order names f r vs declared many proper sound.no_fault) sound)
