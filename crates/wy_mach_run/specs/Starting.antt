-- When do words start a typed program, and why don't they? The words are a name and an argument text.
use Rattle.std.specs.Prelude.{◌≡◌, ◌≢◌, ◌≤◌, ◌<◌, ℕ, List, length, map, None, is_some, ⊤}
use Rattle.wy_value.specs.ArgumentText.{Spells, IsRefused as IsRefusedText, Meets as MeetsFault, fault_of}
use Rattle.wy_value.specs.Seen.{seen, seen_items}
use Rattle.wy_value.specs.Values.{AreValues}
use Rattle.wy_value.specs.declared.fault.Kind.{Kind}
use Rattle.wy_value.specs.declared.fault.ValueFault.{ValueFault}
use Rattle.wy_value.specs.declared.fault.ValueFault.TheVariants as text
use Rattle.wy_value.specs.declared.value.Value.{Value}
use Rattle.wy_core.specs.CoreTree.{Core, Routine}
use Rattle.wy_gen_laws.specs.wy_sem.Precondition as spec
use Rattle.wy_gen_laws.specs.wy_sem.Precondition.{Verdict, Meets, cost, precondition}
use Rattle.wy_eval_exprs.specs.Settings.{here}
use Rattle.wy_eval_exprs.specs.Verdicts.{Finds}
use Rattle.wy_gen_laws.specs.wy_code_spec.compiled.Programs.{code_of}
use Rattle.wy_mach_run.specs.Entries.{IsEntry, HasNoEntry}
use Rattle.wy_mach_run.specs.declared.parts.Start.{Start}
use Rattle.wy_mach_run.specs.declared.fault.StartFault.{StartFault}
use Rattle.wy_mach_run.specs.declared.fault.StartFault.TheVariants.{NoEntry, Argument, OtherCount, OtherType, RequiresFails, TurnsSpent, NoMemory}

-- the most visits of types and turns of quantifiers that the test of arguments makes
abbrev pub most_turns : ℕ
most_turns = 10000000

-- ---- the arguments of an entry

-- they meet the function or method with this number, and to tell so takes no more turns than may be made
pub record IsMet (core : Core ℕ) (number : ℕ) (args : List Value) : Type 0 where
  pub met : Meets here core number (map seen args)
  pub told : cost here core number (map seen args) ≤ most_turns

-- the test of the arguments finds this, and takes no more turns than may be made
pub record Shows (core : Core ℕ) (number : ℕ) (args : List Value) (verdict : Verdict) : Type 0 where
  pub found : Finds verdict (precondition here None core number (map seen args))
  pub told : cost here core number (map seen args) ≤ most_turns

-- they don't meet it: their number is another one; the argument or the clause with this number, from 1, is the first that fails; or it takes more turns to tell
abbrev pub IsNotMet : Core ℕ → ℕ → Routine ℕ → List Value → StartFault → Type 0
IsNotMet core number r args NoEntry = ⊥
IsNotMet core number r args (Argument fault) = ⊥
IsNotMet core number r args (OtherCount count) = (length args ≢ length r.params) × (count ≡ length r.params)
IsNotMet core number r args (OtherType k) = Shows core number args (spec.TypeFails k)
IsNotMet core number r args (RequiresFails k) = Shows core number args (spec.RequiresFails k)
IsNotMet core number r args TurnsSpent = most_turns < cost here core number (map seen args)
IsNotMet core number r args NoMemory = ⊤

-- ---- starts

-- the words name the function or method with this number, and spell values that meet it; the code is that of the program
pub record Starts (core : Core ℕ) (name arguments : List ℕ) (s : Start) : Type 0 where
  pub routine : Routine ℕ
  pub entry : IsEntry core name s.entry routine
  pub spelled : Spells arguments s.args
  pub values : AreValues (seen_items s.args)
  pub met : IsMet core s.entry s.args
  pub has_result : s.has_result ≡ is_some routine.result
  pub code : s.code ≡ code_of core

-- ---- refusals

-- the text is refused so, and no other fault is met in it
pub record HasFault (arguments : List ℕ) (fault : ValueFault) : Type 0 where
  pub known : fault ≢ text.NoMemory
  pub refused : IsRefusedText arguments fault
  pub alone : (x : Kind) (at : ℕ) → MeetsFault arguments x at → fault_of x at ≡ fault

-- there is an entry of this name, and the text spells no arguments
pub record HasBadText (core : Core ℕ) (name arguments : List ℕ) (fault : ValueFault) : Type 0 where
  pub number : ℕ
  pub routine : Routine ℕ
  pub entry : IsEntry core name number routine
  pub due : HasFault arguments fault

-- there is an entry of this name, and the text spells arguments that don't meet it
pub record IsStopped (core : Core ℕ) (name arguments : List ℕ) (fault : StartFault) : Type 0 where
  pub number : ℕ
  pub routine : Routine ℕ
  pub entry : IsEntry core name number routine
  pub args : List Value
  pub spelled : Spells arguments args
  pub not_met : IsNotMet core number routine args fault

-- the words start no run, for this reason; want of memory is free
abbrev pub IsRefused : Core ℕ → List ℕ → List ℕ → StartFault → Type 0
IsRefused core name arguments NoEntry = HasNoEntry core name
IsRefused core name arguments (Argument fault) = HasBadText core name arguments fault
IsRefused core name arguments (OtherCount count) = IsStopped core name arguments (OtherCount count)
IsRefused core name arguments (OtherType k) = IsStopped core name arguments (OtherType k)
IsRefused core name arguments (RequiresFails k) = IsStopped core name arguments (RequiresFails k)
IsRefused core name arguments TurnsSpent = IsStopped core name arguments TurnsSpent
IsRefused core name arguments NoMemory = ⊤

-- the refusal where reading the text has this fault
abbrev pub fault_for : ValueFault → StartFault
fault_for (text.Shape at) = Argument (text.Shape at)
fault_for (text.Range at) = Argument (text.Range at)
fault_for (text.Deep at) = Argument (text.Deep at)
fault_for text.NoMemory = NoMemory
