-- What a turn of the machine and a whole run do, by the step on values.
use Rattle.std.specs.Prelude.{◌≡◌, ◌≤◌, vec_capacity, ℕ, ◌+◌, ◌-◌, List, [], ◌∷◌, ◌++◌, Bool, true, false, Option, Some, None, Result, Ok, Err, Vec, MatchOption, slice_get, slice_set, length, ⊤}
use Rattle.std.specs.declared.alloc.Global.{Global}
use Rattle.wy_value.specs.Datum.{Datum}
use Rattle.wy_value.specs.Seen.{data_of}
use Rattle.wy_value.specs.Shown.{shown}
use Rattle.wy_heap.specs.declared.part.Part.{Part}
use Rattle.wy_heap.specs.declared.heap.Heap.{Heap}
use Rattle.wy_heap.specs.Nodes.{Map, map_of, size}
use Rattle.wy_heap.specs.Meaning.{Means, MeanAll}
use Rattle.wy_heap.specs.Standing.{Stands, Keeps}
use Rattle.wy_heap.specs.Changing.{Lasts}
use Rattle.wy_port.specs.Count.{Rose}
use Rattle.wy_port.specs.Taken.{TookFront, with_taken}
use Rattle.wy_code.specs.declared.instructions.Instr.{Instr}
use Rattle.wy_code.specs.declared.instructions.Instr.TheVariants as instr
use Rattle.wy_code.specs.declared.routines.Code.{Code}
use Rattle.wy_mach.specs.declared.stop.Stop.{Stop}
use Rattle.wy_mach.specs.declared.stop.Stop.TheVariants as stop
use Rattle.wy_mach.specs.declared.stop.Stuck as instruction
use Rattle.wy_code_spec.specs.step.Step.{Frame, Caller, State, Runs, Ended, Stuck, step, stepped, effect, instr_at, after, start, holding, empties}
use Rattle.wy_mach.specs.Showing.{Shows, IsNoInt}
use Rattle.wy_mach.specs.declared.machine.Machine.{Machine}
use Rattle.wy_mach.specs.declared.machine.Turn.{Turn}
use Rattle.wy_mach.specs.declared.machine.Turn.TheVariants as turn
use Rattle.wy_mach.specs.declared.runs.RunEnd.{RunEnd}
use Rattle.wy_mach.specs.declared.runs.RunEnd.TheVariants as run_end
use Rattle.wy_mach.specs.declared.frames.Caller as of_callers
use Rattle.wy_mach.specs.States.{ShowsState, places_of}

-- ---- instructions

-- the instruction goes on behind, and prints nothing
abbrev pub IsPlain : Instr → Type 0
IsPlain (instr.Jump t) = ⊥
IsPlain (instr.Branch r t) = ⊥
IsPlain (instr.Call d f rs) = ⊥
IsPlain (instr.Return r) = ⊥
IsPlain (instr.Print a) = ⊥
IsPlain (instr.PrintInt a) = ⊥
IsPlain _ = ⊤

-- the instruction takes no memory, goes on behind, and prints nothing
abbrev pub IsMoving : Instr → Type 0
IsMoving (instr.Const d c) = ⊤
IsMoving (instr.Move d r) = ⊤
IsMoving (instr.Clear rs) = ⊤
IsMoving (instr.Arith d op a b) = ⊤
IsMoving (instr.Compare d op a b) = ⊤
IsMoving (instr.Not d a) = ⊤
IsMoving (instr.Len d a) = ⊤
IsMoving (instr.Kind d a k) = ⊤
IsMoving _ = ⊥

-- the same answer, with the reason
abbrev pub stop_result : Result (Unit {0}) instruction.Stuck → Result (Unit {0}) Stop
stop_result (Ok done) = Ok done
stop_result (Err refused) = Err stop.Stuck

-- the instruction makes or copies a node, compares, calls or returns: it may want memory
abbrev pub MayTakeMemory : Instr → Type 0
MayTakeMemory (instr.Share d r) = ⊤
MayTakeMemory (instr.Equal d a b) = ⊤
MayTakeMemory (instr.Array d rs) = ⊤
MayTakeMemory (instr.Record d k rs) = ⊤
MayTakeMemory (instr.Fill d v n) = ⊤
MayTakeMemory (instr.Get d a i) = ⊤
MayTakeMemory (instr.Field d a f) = ⊤
MayTakeMemory (instr.Put a path v) = ⊤
MayTakeMemory (instr.Call d f rs) = ⊤
MayTakeMemory (instr.Return r) = ⊤
MayTakeMemory _ = ⊥

-- the instruction holds no number that is no `int`
abbrev pub HasInt : Instr → Type 0
HasInt (instr.Const d c) = IsNoInt c → ⊥
HasInt _ = ⊤

abbrev pub MayWantMemory : Option Instr → Type 0
MayWantMemory None = ⊥
MayWantMemory (Some i) = MayTakeMemory i

-- ---- one turn

-- the state behind a frame with its callers and what is printed so far
abbrev pub Next : Type 0
Next = Frame → List Caller → List ℕ → State

-- the machine shows the state, and the sink took what was printed on the way there; where that has no step, nothing is said
abbrev pub Reaches : Machine → Option (List ℕ) → Option (List ℕ) → List ℕ → State → Type 0
Reaches k before after output (Runs fr callers out) = ShowsState k fr callers × ((printed : List ℕ) × (out ≡ output ++ printed) × (after ≡ with_taken before printed))
Reaches k before after output (Ended v out) = ⊥
Reaches k before after output Stuck = ⊤

-- the run ends with the value, and nothing is printed
abbrev pub EndsWith : (Datum → Type 0) → List ℕ → State → Type 0
EndsWith ends output (Runs fr callers out) = ⊥
EndsWith ends output (Ended v out) = ends v × (out ≡ output)
EndsWith ends output Stuck = ⊤

-- the sink took a front of what is printed on the way to the state
abbrev pub Breaks : Option (List ℕ) → Option (List ℕ) → List ℕ → State → Type 0
Breaks before after output (Runs fr callers out) = (printed : List ℕ) × (out ≡ output ++ printed) × TookFront before after printed
Breaks before after output (Ended v out) = ⊥
Breaks before after output Stuck = ⊤

-- the text is that of the value, where one is wanted
abbrev pub HasTextOf : Bool → Option (Vec ℕ Global) → Datum → Type 0
HasTextOf wanted text v = MatchOption text (wanted ≡ false) (λ t. (wanted ≡ true) × (t.items ≡ shown v))

-- what was left of the heap when a place for the value alone was held: its nodes and the copies made are so many
pub record LeavesResult (old : Heap) (copies nodes : ℕ) (v : Datum) : Type 0 where
  pub heap : Heap
  pub place : Part
  pub stands : Stands heap (place ∷ [])
  pub means : Means (map_of heap) v place
  pub lasts : Lasts (map_of old) (map_of heap)
  pub nodes_are : nodes ≡ size (map_of heap)
  pub copies_are : copies ≡ heap.copies
  pub no_more : heap.copies ≡ old.copies

-- whatever the machine shows, it shows what comes next
abbrev pub Steps : Next → Machine → Machine → Option (List ℕ) → Option (List ℕ) → Type 0
Steps next old new before after = (fr : Frame) (callers : List Caller) (output : List ℕ) → ShowsState old fr callers → Reaches new before after output (next fr callers output)

-- whatever the machine shows, the run ends, with this text, so many copies and so many nodes
abbrev pub IsDone : Next → Machine → Option (Vec ℕ Global) → ℕ → ℕ → Type 0
IsDone next old text copies nodes =
    (fr : Frame) (callers : List Caller) (output : List ℕ) → ShowsState old fr callers → EndsWith (λ v. HasTextOf old.has_result text v × LeavesResult old.heap copies nodes v) output (next fr callers output)

-- whatever the machine shows, nothing comes next
abbrev pub HasNoNext : Next → Machine → Type 0
HasNoNext next old = (fr : Frame) (callers : List Caller) (output : List ℕ) → ShowsState old fr callers → next fr callers output ≡ Stuck

-- what a turn did, by what the sink had taken and how often it had failed, before and after
abbrev pub Turned : Next → Machine → Machine → Option (List ℕ) → Option (List ℕ) → ℕ → ℕ → Turn → Type 0
Turned next old new before after failed fails turn.Went = Steps next old new before after
Turned next old new before after failed fails (turn.Done text copies nodes) = IsDone next old text copies nodes × (after ≡ before)
Turned next old new before after failed fails turn.OutFault =
    ((fr : Frame) (callers : List Caller) (output : List ℕ) → ShowsState old fr callers → Breaks before after output (next fr callers output)) × Rose failed fails
Turned next old new before after failed fails turn.Stuck = HasNoNext next old × (after ≡ before)

-- one step of the code
abbrev pub next_in : Code → Next
next_in code fr callers output = step code (Runs fr callers output)

-- one instruction
abbrev pub next_by : Code → Instr → Next
next_by code i fr callers output = stepped code fr callers output (effect code.shapes i fr.registers)

-- what an instruction did that prints nothing
abbrev pub TurnsBy : Instr → Machine → Machine → Turn → Type 0
TurnsBy i old new t = (code : Code) (before : Option (List ℕ)) (failed : ℕ) → Turned (next_by code i) old new before before failed failed t

-- the next instruction of a machine
abbrev pub instr_of : Code → Machine → Option Instr
instr_of code k = instr_at (slice_get code.routines k.frame.routine) k.frame.at

-- the cap, the table and what is wanted of the result are as before, and there is as much room for paths
pub record KeepsRest (old new : Machine) : Type 0 where
  pub cap : new.heap.cap ≡ old.heap.cap
  pub room : vec_capacity old.path ≤ vec_capacity new.path
  pub shapes : new.heap.shapes ≡ old.heap.shapes
  pub has_result : new.has_result ≡ old.has_result

-- ---- a run

-- the state behind so many steps of a routine on arguments
abbrev pub state_behind : Code → ℕ → List Datum → ℕ → State
state_behind code f args steps = after code steps (start code f args)

-- what a run printed, where it goes on and where it ended; of what has no step nothing is said
abbrev pub Spends : Option (List ℕ) → Option (List ℕ) → State → Type 0
Spends before after (Runs fr callers out) = after ≡ with_taken before out
Spends before after (Ended v out) = ⊥
Spends before after Stuck = ⊤

abbrev pub Finishes : (Datum → Type 0) → Option (List ℕ) → Option (List ℕ) → State → Type 0
Finishes ends before after (Runs fr callers out) = ⊥
Finishes ends before after (Ended v out) = ends v × (after ≡ with_taken before out)
Finishes ends before after Stuck = ⊤

abbrev pub PrintsFront : Option (List ℕ) → Option (List ℕ) → State → Type 0
PrintsFront before after (Runs fr callers out) = TookFront before after out
PrintsFront before after (Ended v out) = TookFront before after out
PrintsFront before after Stuck = ⊤

-- there is no next state, though the run hasn't ended
abbrev pub IsStuck : State → Type 0
IsStuck (Runs fr callers out) = ⊥
IsStuck (Ended v out) = ⊥
IsStuck Stuck = ⊤

-- none of the steps that led to the state was lacking
abbrev pub LacksNone : State → Type 0
LacksNone st = IsStuck st → ⊥

-- how a run ended, by the state behind all its steps, and by what the sink had taken and how often it had failed, before and after
abbrev pub Ran : State → Bool → Option (List ℕ) → Option (List ℕ) → ℕ → ℕ → RunEnd → Type 0
Ran st wanted before after failed fails (run_end.Done text copies nodes) = Finishes (λ v. HasTextOf wanted text v × ((old : Heap) × LeavesResult old copies nodes v)) before after st
Ran st wanted before after failed fails run_end.Spent = Spends before after st
Ran st wanted before after failed fails run_end.OutFault = PrintsFront before after st × Rose failed fails

-- the machine shows the first state of a run
abbrev pub ShowsFirst : Machine → State → Type 0
ShowsFirst k (Runs fr callers out) = ShowsState k fr callers × (out ≡ [])
ShowsFirst k (Ended v out) = ⊥
ShowsFirst k Stuck = ⊥

-- the machine shows the first state of a run in which none of so many steps is lacking
abbrev pub HasSteps : Code → Machine → ℕ → Type 0
HasSteps code k steps = (st : State) × ShowsFirst k st × LacksNone (after code steps st)

abbrev pub Starts : Code → ℕ → List Datum → Machine → Type 0
Starts code f args k = ShowsFirst k (start code f args)

-- ---- calls and returns inside a turn

-- a routine runs now on these arguments, and the frame that ran waits behind its call
pub record Enters (old new : Machine) (number to registers : ℕ) (arguments : List Part) : Type 0 where
  pub heap : new.heap ≡ old.heap
  pub routine : new.frame.routine ≡ number
  pub at : new.frame.at ≡ 0
  pub shows : (m : Map) (vs : List Datum) → MeanAll m (data_of vs) arguments → Shows m (holding vs ++ empties (registers - length vs)) new.frame.registers.items
  pub callers : new.callers.items ≡ old.callers.items ++ record { frame = record old.frame { at = old.frame.at + 1 }; target = to } ∷ []

-- the caller runs again with the result in its register; what is held stands for what it stood for
pub record Resumes (old new : Machine) (caller : of_callers.Caller) (given : Part) : Type 0 where
  pub routine : new.frame.routine ≡ caller.frame.routine
  pub at : new.frame.at ≡ caller.frame.at
  pub registers : new.frame.registers.items ≡ slice_set caller.frame.registers.items caller.target given
  pub callers : new.callers.items ≡ old.callers.items
  pub stands : Stands new.heap (places_of new)
  pub keeps : Keeps (map_of old.heap) (map_of new.heap) (places_of new)

-- the run is done with the result of which this place is a hold
abbrev pub IsEnd : Machine → Part → Turn → Type 0
IsEnd old given turn.Went = ⊥
IsEnd old given (turn.Done text copies nodes) = (d : Datum) → Means (map_of old.heap) d given → HasTextOf old.has_result text d × LeavesResult old.heap copies nodes d
IsEnd old given turn.OutFault = ⊥
IsEnd old given turn.Stuck = ⊥
