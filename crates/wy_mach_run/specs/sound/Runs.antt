-- What a run of code comes to, beside what the program does.
use Rattle.std.specs.Prelude.{◌≡◌, ◌≤◌, ◌<◌, ℕ, ◌+◌, ◌*◌, List, length, map, Option}
use Rattle.wy_value.specs.Datum.{Datum}
use Rattle.wy_value.specs.Seen.{seen, seen_items}
use Rattle.wy_value.specs.Values.{AreValues}
use Rattle.wy_value.specs.declared.value.Value.{Value}
use Rattle.wy_core.specs.CoreTree.{Core, Routine, routines_of}
use Rattle.wy_core.specs.formed.Formed.{Formed}
use Rattle.wy_gen_laws.specs.wy_sem.kept.Kept.{ListProper}
use Rattle.wy_code.specs.declared.routines.Code.{Code}
use Rattle.wy_gen_laws.specs.wy_code_spec.compiled.Programs.{code_of}
use Rattle.wy_gen_laws.specs.wy_sem.Meter.{Meter, Done}
use Rattle.wy_gen_laws.specs.wy_sem.Operations.{or_null}
use Rattle.wy_gen_laws.specs.wy_sem.Evaluation.{Declared, callee, evaluate}
use Rattle.wy_gen_laws.specs.wy_sem.Growth.{Begins, output_of}
use Rattle.wy_gen_laws.specs.wy_code_spec.step.Step.{State, Runs, Ended, Stuck, start, after}
use Rattle.wy_gen_laws.specs.tests.Tested.{ClausesNameTheirs}
use Rattle.wy_gen_laws.specs.programs.Programs.{AllInOrder, IsStuck, PrintsThat}
use Rattle.wy_mach_run.specs.sound.Results.{Fulfils, IsFaultless}

-- the program is done with this value, or with null for none, and with this output; and what it gave is as its contract says
pub record Gives (place : ℕ → ℕ) (core : Core ℕ) (f : ℕ) (r : Routine ℕ) (vs : List Datum) (v : Datum) (output : List ℕ) : Type 0 where
  pub ticks : ℕ
  pub value : Option Datum
  pub meter : Meter
  pub done : evaluate place core f vs ticks ≡ Done value meter
  pub is : or_null value ≡ v
  pub same : meter.output ≡ output
  pub fulfils : Fulfils place core r vs value

-- behind so many steps the run goes on and has printed this
pub record GoesOn (place : ℕ → ℕ) (core : Core ℕ) (f : ℕ) (vs : List Datum) (steps : ℕ) (output : List ℕ) : Type 0 where
  -- the program isn't done at any number of ticks for which there were steps enough
  pub late : (k : ℕ) (v : Option Datum) (m : Meter) → evaluate place core f vs (m.ticks + k) ≡ Done v m → steps < 16 * k + 16
  -- from some number of ticks on the program prints all of this first
  pub front : PrintsThat place core f vs output
  -- and all that it prints at a number of ticks for which there were steps enough is there
  pub behind : (k : ℕ) → 16 * k + 16 ≤ steps → Begins (output_of (evaluate place core f vs k)) output

-- so it is with a state behind so many steps
abbrev pub IsRight : (ℕ → ℕ) → Core ℕ → ℕ → Routine ℕ → List Datum → ℕ → State → Type 0
IsRight place core f r vs steps (Runs fr callers output) = GoesOn place core f vs steps output
IsRight place core f r vs steps (Ended v output) = Gives place core f r vs v output
IsRight place core f r vs steps Stuck = ⊥

-- the run, which is in this state behind so many steps, does what the program does
pub record RunsRightly (place : ℕ → ℕ) (core : Core ℕ) (f : ℕ) (r : Routine ℕ) (vs : List Datum) (run : ℕ → State) : Type 0 where
  -- it never lacks a step
  pub goes : (n : ℕ) → IsStuck (run n) → ⊥
  -- each of its states is right
  pub right : (n : ℕ) → IsRight place core f r vs n (run n)
  -- where the program is done, so is the run behind 16 steps for each tick that was spent and 16 more, with the same value and output
  pub surely : (k : ℕ) (v : Option Datum) (m : Meter) → evaluate place core f vs (m.ticks + k) ≡ Done v m → (n : ℕ) → 16 * k + 16 ≤ n → run n ≡ Ended (or_null v) m.output

-- the run of code from a routine on values
abbrev pub run_by : Code → ℕ → List Datum → ℕ → State
run_by code f vs n = after code n (start code f vs)

-- of each formed program whose parameters are numbered in order, and of whose types each with clauses has a variable
abbrev pub SoundProgramsRunRightly : Type 0
SoundProgramsRunRightly = (place : ℕ → ℕ) (core : Core ℕ) → Formed core → AllInOrder (routines_of core) → ClausesNameTheirs core → (code : Code) → code ≡ code_of core
    → (f : ℕ) (r : Routine ℕ) (vs : List Datum) → callee (routines_of core) f ≡ Declared r → length vs ≡ length r.params → ListProper vs → IsFaultless place core f r vs
    → RunsRightly place core f r vs (run_by code f vs)

-- values are such data as the code asks of arguments
abbrev pub ValuesAreProper : Type 0
ValuesAreProper = (vs : List Value) → AreValues (seen_items vs) → ListProper (map seen vs)
