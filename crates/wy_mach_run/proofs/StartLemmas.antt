-- The steps of a start, put together.
use Rattle.std.proofs.Common.{◌≡◌, ◌≢◌, ℕ, List, length, map, None, Result, Ok, Err, refl}
use Rattle.std.specs.Prelude.{MatchResult, IfOk, IfErr}
use Rattle.wy_value.specs.Seen.{seen}
use Rattle.wy_value.specs.declared.value.Value.{Value}
use Rattle.wy_core.specs.CoreTree.{Core, Routine}
use Rattle.wy_gen_laws.specs.wy_sem.Precondition.{Meets, cost, precondition}
use Rattle.wy_eval_exprs.specs.Settings.{here}
use Rattle.wy_eval_exprs.specs.Verdicts.{IsExact}
use Rattle.wy_eval_exprs.specs.declared.precondition.MeetsEnd.{MeetsEnd}
use Rattle.wy_eval_exprs.specs.declared.precondition.MeetsEnd.TheVariants as end
use Rattle.wy_mach_run.specs.Entries.{IsEntry}
use Rattle.wy_mach_run.specs.Meeting.{judged}
use Rattle.wy_mach_run.specs.Starting.{IsMet, IsNotMet, IsRefused, Starts, most_turns}
use Rattle.wy_mach_run.specs.declared.parts.Start.{Start}
use Rattle.wy_mach_run.specs.declared.fault.StartFault.{StartFault}
use Rattle.wy_mach_run.specs.declared.fault.StartFault.TheVariants.{NoEntry, Argument, OtherCount, OtherType, RequiresFails, TurnsSpent, NoMemory}
use Rattle.wy_mach_run.proofs.ExclusionLemmas.{have_one_start, have_one_refusal, start_or_refuse}
use Rattle.wy_mach_run.proofs.MeetingLemmas.{count_fails}

-- ---- the test of the arguments

pub judged_so : (core : Core ℕ) (name : List ℕ) (f count : ℕ) (r : Routine ℕ) (args : List Value) (e : MeetsEnd) → IsEntry core name f r → count ≡ length r.params
    → IsExact e most_turns (cost here core f (map seen args)) (precondition here None core f (map seen args)) (Meets here core f (map seen args))
    → MatchResult (judged count e) (λ u. IsMet core f args) (IsNotMet core f r args)
judged_so core name f count r args end.Met entry many h = record { met = h.2; told = h.0 }
judged_so core name f count r args end.CountFails entry many h = (count_fails core name f r entry args h.1, many)
judged_so core name f count r args (end.TypeFails k) entry many h = record { found = h.1; told = h.0 }
judged_so core name f count r args (end.RequiresFails k) entry many h = record { found = h.1; told = h.0 }
judged_so core name f count r args end.TurnsSpent entry many h = h

-- ---- refusals

module _ (core : Core ℕ) (name arguments : List ℕ) where
  -- ---- each answer is the only one

  abbrev Given : Result Start StartFault → Type 0
  Given r = MatchResult r (Starts core name arguments) (IsRefused core name arguments)

  pub given_starts : (r : Result Start StartFault) → Given r → IfOk r (Starts core name arguments)
  given_starts (Ok s) h = h
  given_starts (Err x) h = tt

  pub given_refused : (r : Result Start StartFault) → Given r → IfErr r (IsRefused core name arguments)
  given_refused (Ok s) h = tt
  given_refused (Err x) h = h

  no_memory : (s : Start) (x : StartFault) → Starts core name arguments s → IsRefused core name arguments x → x ≡ NoMemory
  no_memory s NoEntry st h = absurd (start_or_refuse core name arguments s NoEntry (λ q. cc) st h)
  no_memory s (Argument fault) st h = absurd (start_or_refuse core name arguments s (Argument fault) (λ q. cc) st h)
  no_memory s (OtherCount n) st h = absurd (start_or_refuse core name arguments s (OtherCount n) (λ q. cc) st h)
  no_memory s (OtherType k) st h = absurd (start_or_refuse core name arguments s (OtherType k) (λ q. cc) st h)
  no_memory s (RequiresFails k) st h = absurd (start_or_refuse core name arguments s (RequiresFails k) (λ q. cc) st h)
  no_memory s TurnsSpent st h = absurd (start_or_refuse core name arguments s TurnsSpent (λ q. cc) st h)
  no_memory s NoMemory st h = refl

  pub given_complete : (r : Result Start StartFault) → Given r → (s : Start) → Starts core name arguments s → MatchResult r (λ t. t ≡ s) (λ e. e ≡ NoMemory)
  given_complete (Ok t) h s st = have_one_start core name arguments t s h st
  given_complete (Err x) h s st = no_memory s x st h

  pub given_exact : (r : Result Start StartFault) → Given r → (e : StartFault) → e ≢ NoMemory → IsRefused core name arguments e → MatchResult r (λ t. ⊥) (λ f. f ≢ NoMemory → f ≡ e)
  given_exact (Ok t) h e known refused = start_or_refuse core name arguments t e known h refused
  given_exact (Err f) h e known refused = λ other. have_one_refusal core name arguments f e other known h refused
