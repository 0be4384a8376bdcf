-- The code of a program does what the program does, read in both directions.
use Rattle.std.specs.Prelude.{◌≡◌, ◌≤◌, ℕ, ◌+◌, ◌*◌, List, [], ◌∷◌, length}
use Rattle.std.specs.Prelude.{Option}
use Rattle.wy_value.specs.Datum.{Datum}
use Rattle.wy_core.specs.CoreTree.{Routine, Core, routines_of}
use Rattle.wy_core.specs.formed.Formed.{Formed}
use Rattle.wy_vc_spec.specs.wy_sem.kept.Kept.{ListProper}
use Rattle.wy_code_spec.specs.compiled.Programs.{code_of}
use Rattle.wy_vc_spec.specs.wy_sem.Meter.{Meter, Outcome, Done, Fault, More, Spent}
use Rattle.wy_vc_spec.specs.wy_sem.Operations.{or_null}
use Rattle.wy_vc_spec.specs.wy_sem.Evaluation.{callee, Declared, evaluate}
use Rattle.wy_vc_spec.specs.wy_sem.Growth.{Begins, output_of}
use Rattle.wy_code_spec.specs.step.Step.{State, Runs, Ended, Stuck, start, after}
use Rattle.wy_gen_laws.specs.tests.Tested.{ClausesNameTheirs}
use Rattle.wy_gen_laws.specs.statements.Routines.{InOrder}

-- the parameters of each function and method have the first numbers, in order
abbrev pub AllInOrder : List (Routine ℕ) → Type 0
AllInOrder [] = Unit {0}
AllInOrder (r ∷ rs) = InOrder 0 r.params × AllInOrder rs

-- the evaluation is no fault
abbrev pub NoFault : Outcome (Option Datum) → Type 0
NoFault (Done v m) = Unit {0}
NoFault (Fault kind at m) = ⊥
NoFault (More m) = Unit {0}
NoFault Spent = Unit {0}

-- what a run has printed
abbrev pub printed : State → List ℕ
printed (Runs fr callers output) = output
printed (Ended v output) = output
printed Stuck = []

-- it has a next step, or has ended
abbrev pub IsStuck : State → Type 0
IsStuck (Runs fr callers output) = ⊥
IsStuck (Ended v output) = ⊥
IsStuck Stuck = Unit {0}

-- the run behind so many steps
abbrev pub run_of : Core ℕ → ℕ → List Datum → ℕ → State
run_of core f vs n = after (code_of core) n (start (code_of core) f vs)

-- the run ends with this value and output behind so many steps
pub record EndsWith (core : Core ℕ) (f : ℕ) (vs : List Datum) (bound : ℕ) (v : Datum) (output : List ℕ) : Type 0 where
  pub steps : ℕ
  pub most : steps ≤ bound
  pub is : run_of core f vs steps ≡ Ended v output

-- with so many ticks the evaluation is done, with this value and output
pub record IsDone (place : ℕ → ℕ) (core : Core ℕ) (f : ℕ) (vs : List Datum) (v : Datum) (output : List ℕ) : Type 0 where
  pub ticks : ℕ
  pub value : Option Datum
  pub meter : Meter
  pub done : evaluate place core f vs ticks ≡ Done value meter
  pub is : or_null value ≡ v
  pub same : meter.output ≡ output

-- from some number of ticks on the evaluation has printed all of this
pub record PrintsThat (place : ℕ → ℕ) (core : Core ℕ) (f : ℕ) (vs : List Datum) (output : List ℕ) : Type 0 where
  pub ticks : ℕ
  pub from_there : (k : ℕ) → ticks ≤ k → Begins output (output_of (evaluate place core f vs k))

-- the run of the code goes beside the evaluation
pub record RunsBeside (place : ℕ → ℕ) (core : Core ℕ) (f : ℕ) (vs : List Datum) : Type 0 where
  -- it never lacks a step
  pub goes : (n : ℕ) → IsStuck (run_of core f vs n) → ⊥
  -- where the evaluation is done it ends with the same, within 16 steps for each tick that was spent
  pub ends : (k : ℕ) (v : Option Datum) (m : Meter) → evaluate place core f vs (m.ticks + k) ≡ Done v m → EndsWith core f vs (16 * k + 16) (or_null v) m.output
  -- where it ends the evaluation is done with the same
  pub only : (n : ℕ) (v : Datum) (output : List ℕ) → run_of core f vs n ≡ Ended v output → IsDone place core f vs v output
  -- at each number of ticks it has printed what the evaluation has, behind so many steps
  pub prints : (k : ℕ) → Begins (output_of (evaluate place core f vs k)) (printed (run_of core f vs (16 * k + 16)))
  -- behind each number of steps it has printed no more than the evaluation, from some number of ticks on
  pub printed_too : (n : ℕ) → PrintsThat place core f vs (printed (run_of core f vs n))

-- in each formed program whose parameters are numbered in order, and of whose types each with clauses has a variable: of each function or method on values, as many as it has parameters, whose evaluation is a fault at no number of ticks
abbrev pub ProgramsAreSimulated : Type 0
ProgramsAreSimulated = (place : ℕ → ℕ) (core : Core ℕ) → Formed core → AllInOrder (routines_of core) → ClausesNameTheirs core → (f : ℕ) (r : Routine ℕ) (vs : List Datum) → callee (routines_of core) f ≡ Declared r → length vs ≡ length r.params → ListProper vs
    → ((k : ℕ) → NoFault (evaluate place core f vs k)) → RunsBeside place core f vs
