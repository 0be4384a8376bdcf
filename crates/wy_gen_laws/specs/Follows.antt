-- A run of the machine beside an evaluation: its steps are bounded by the ticks that are spent, and these by the steps.
use Rattle.std.specs.Prelude.{◌≡◌, ◌≤◌, ℕ, ◌+◌, ◌*◌, List}
use Rattle.wy_code.specs.declared.routines.Code.{Code}
use Rattle.wy_vc_spec.specs.wy_sem.Meter.{Meter, Outcome, Done, Fault, More, Spent}
use Rattle.wy_vc_spec.specs.wy_sem.Expressions.{Store}
use Rattle.wy_code_spec.specs.step.Step.{State, Runs, Ended, Stuck, Caller, after}

-- it still runs, and has printed this
abbrev pub IsGoing : List ℕ → State → Type 0
IsGoing output (Runs fr callers printed) = printed ≡ output
IsGoing output (Ended v printed) = ⊥
IsGoing output Stuck = ⊥

-- from the one meter to the other the evaluation spends ticks, and so many steps of the run lead to such a state; each step stands for at most `wide` ticks, but for `lo` of them, and each tick for at most 16 steps, but for `hi` of them
pub record Ends (code : Code) (wide lo hi : ℕ) (m k : Meter) (st : State) (Q : State → Type 0) : Type 0 where
  pub steps : ℕ
  pub spent : ℕ
  pub total : m.ticks ≡ k.ticks + spent
  pub least : spent ≤ wide * steps + lo
  pub most : steps ≤ 16 * spent + hi
  pub there : Q (after code steps st)

-- the evaluation spends all its ticks, and the run goes on with the same output
pub record GoesOn (code : Code) (wide lo hi : ℕ) (m k : Meter) (st : State) : Type 0 where
  pub steps : ℕ
  pub least : m.ticks ≤ wide * steps + lo
  pub most : steps ≤ 16 * m.ticks + hi
  pub going : IsGoing k.output (after code steps st)

-- the run from a state follows an outcome that begins with a meter, and where that has an answer it comes to such a state; of a fault nothing is said
abbrev pub Follows : {X : Type 0} → Code → (wide lo hi : ℕ) → Meter → State → Outcome X → (X → Meter → State → Type 0) → Type 0
Follows code wide lo hi m st (Done x k) Q = Ends code wide lo hi m k st (Q x k)
Follows code wide lo hi m st (Fault kind at k) Q = Unit {0}
Follows code wide lo hi m st (More k) Q = GoesOn code wide lo hi m k st
Follows code wide lo hi m st Spent Q = Unit {0}

-- the state of a routine at an instruction, with these registers
abbrev pub at_place : ℕ → ℕ → Store → List Caller → List ℕ → State
at_place f at regs callers output = Runs (record { routine = f; at = at; registers = regs }) callers output

-- it is at this instruction, with registers of which this is true
pub record Comes {X : Type 0} (f at : ℕ) (callers : List Caller) (R : X → Store → Type 0) (x : X) (k : Meter) (st : State) : Type 0 where
  pub regs : Store
  pub is : st ≡ at_place f at regs callers k.output
  pub ok : R x regs
