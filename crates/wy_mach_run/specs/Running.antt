-- What does a run write, and how does it end? It is said by the step on registers that hold values.
use Rattle.std.specs.Prelude.{◌≡◌, ℕ, List, [], ◌∷◌, ◌++◌, length, map, Bool, true, false, Option, Some, None, Vec, slice_get, ⊤}
use Rattle.std.specs.declared.alloc.Global.{Global}
use Rattle.wy_value.specs.Datum.{Datum}
use Rattle.wy_value.specs.Seen.{seen, seen_items}
use Rattle.wy_value.specs.Shapes.{IsShapes}
use Rattle.wy_value.specs.Shown.{shown}
use Rattle.wy_value.specs.Values.{AreValues}
use Rattle.wy_heap.specs.declared.heap.Heap.{Heap}
use Rattle.wy_port.specs.Count.{Rose}
use Rattle.wy_port.specs.Taken.{TookFront, with_taken}
use Rattle.wy_code.specs.declared.routines.Code.{Code}
use Rattle.wy_code.specs.declared.routines.Routine.{Routine}
use Rattle.wy_gen_laws.specs.wy_code_spec.step.Step as step
use Rattle.wy_gen_laws.specs.wy_code_spec.step.Step.{State, Ended}
use Rattle.wy_mach.specs.States.{HasInts}
use Rattle.wy_mach.specs.Running.{LacksNone, LeavesResult, Spends, state_behind}
use Rattle.wy_mach.specs.SharedTurns.{RanShared}
use Rattle.wy_mach.specs.declared.runs.RunEnd.{RunEnd as MachineEnd}
use Rattle.wy_mach.specs.declared.runs.RunEnd.TheVariants as run_end
use Rattle.wy_mach_run.specs.declared.parts.Start.{Start}
use Rattle.wy_mach_run.specs.declared.end.RunEnd.{RunEnd}
use Rattle.wy_mach_run.specs.declared.end.RunEnd.TheVariants.{Done, Spent, OutFault}

-- ---- what can run

-- the state behind so many steps of what a start has
abbrev pub state_of : Start → ℕ → State
state_of s steps = state_behind s.code s.entry (map seen s.args) steps

-- its run never lacks a step: behind any number of them it goes on, or it has ended
abbrev pub Goes : Start → Type 0
Goes s = (steps : ℕ) → LacksNone (state_of s steps)

-- the table of the code is one of shapes, its numbers are `int`s, the entry takes so many arguments, these are values, and the run never lacks a step
pub record CanRun (s : Start) : Type 0 where
  pub table : IsShapes s.code.shapes
  pub ints : HasInts s.code
  pub entry : (r : Routine) × (slice_get s.code.routines s.entry ≡ Some r) × (length s.args ≡ r.params)
  pub args : AreValues (seen_items s.args)
  pub goes : Goes s

-- ---- what is written

-- what a run has written that printed this and ended with a value: where a result is wanted, its text and a line end stand behind
abbrev pub written : Bool → List ℕ → Datum → List ℕ
written true output v = output ++ (shown v ++ 10 ∷ [])
written false output v = output

-- so many nodes are left where the value alone is held, and so many were copied on the way
abbrev pub Leaves : ℕ → ℕ → Datum → Type 0
Leaves copies nodes v = (old : Heap) × LeavesResult old copies nodes v

-- the run ended, all was written, and this is left; of what has no step nothing is said
abbrev pub Finished : Bool → ℕ → ℕ → Option (List ℕ) → Option (List ℕ) → State → Type 0
Finished wanted copies nodes before after (step.Runs fr callers output) = ⊥
Finished wanted copies nodes before after (Ended v output) = Leaves copies nodes v × (after ≡ with_taken before (written wanted output v))
Finished wanted copies nodes before after step.Stuck = ⊤

-- the sink took a front of what the run has written
abbrev pub WritesFront : Bool → Option (List ℕ) → Option (List ℕ) → State → Type 0
WritesFront wanted before after (step.Runs fr callers output) = TookFront before after output
WritesFront wanted before after (Ended v output) = TookFront before after (written wanted output v)
WritesFront wanted before after step.Stuck = ⊤

-- ---- how a run ends

-- how a run ended, by the state behind all its steps, and by what the sink had taken and how often it had failed, before and after
abbrev pub EndsSo : Bool → State → Option (List ℕ) → Option (List ℕ) → ℕ → ℕ → RunEnd → Type 0
EndsSo wanted st before after failed fails (Done copies nodes) = Finished wanted copies nodes before after st
EndsSo wanted st before after failed fails Spent = Spends before after st
EndsSo wanted st before after failed fails OutFault = WritesFront wanted before after st × Rose failed fails

-- so ends a run of what a start has, for so many steps
abbrev pub RunsTo : Start → ℕ → Option (List ℕ) → Option (List ℕ) → ℕ → ℕ → RunEnd → Type 0
RunsTo s steps before after failed fails end = EndsSo s.has_result (state_of s steps) before after failed fails end

-- ---- what is counted

-- the most holders that a node has: at one more it is copied
abbrev pub most_holders : ℕ
most_holders = 4294967295

-- the machine's run of this routine on arguments is done within so many steps, and counted so many copies and so many nodes
abbrev pub Counts : Code → ℕ → List Datum → ℕ → ℕ → ℕ → Type 0
Counts code entry args steps copies nodes = RanShared code entry args steps most_holders (run_end.Done None copies nodes)

-- the counts of a run that is done are those of the machine's run of what a start has
abbrev pub CountsSo : Start → ℕ → RunEnd → Type 0
CountsSo s steps (Done copies nodes) = Counts s.code s.entry (map seen s.args) steps copies nodes
CountsSo s steps Spent = ⊤
CountsSo s steps OutFault = ⊤

-- a run is done only where the machine's is, with the same counts
abbrev pub SameCounts : MachineEnd → RunEnd → Type 0
SameCounts end Spent = ⊤
SameCounts end OutFault = ⊤
SameCounts (run_end.Done text copies nodes) (Done c n) = (c ≡ copies) × (n ≡ nodes)
SameCounts run_end.Spent (Done c n) = ⊥
SameCounts run_end.OutFault (Done c n) = ⊥

-- ---- the end of what is written

-- the text and its line end, where there is one
abbrev pub closing : Option (Vec ℕ Global) → List ℕ
closing None = []
closing (Some text) = text.items ++ 10 ∷ []

-- they were written and the run is done, with these counts; or a front of them was
abbrev pub Closes : Option (Vec ℕ Global) → ℕ → ℕ → Option (List ℕ) → Option (List ℕ) → ℕ → ℕ → RunEnd → Type 0
Closes text copies nodes before after failed fails (Done c n) = (c ≡ copies) × (n ≡ nodes) × (after ≡ with_taken before (closing text))
Closes text copies nodes before after failed fails Spent = ⊥
Closes text copies nodes before after failed fails OutFault = TookFront before after (closing text) × Rose failed fails
