-- The states of the machine, as those of the step on values.
use Rattle.std.specs.Prelude.{◌≡◌, ◌≤◌, ℕ, List, [], ◌∷◌, ◌++◌, length, reverse, Some, slice_get, vec_capacity}
use Rattle.wy_value.specs.Shapes.{IsShapes}
use Rattle.wy_heap.specs.declared.part.Part.{Part}
use Rattle.wy_heap.specs.Nodes.{Map, map_of}
use Rattle.wy_heap.specs.Standing.{Stands}
use Rattle.wy_heap.specs.Extending.{Extends}
use Rattle.wy_code.specs.declared.instructions.Scalar.{Scalar}
use Rattle.wy_code.specs.declared.instructions.Instr.{Instr}
use Rattle.wy_code.specs.declared.instructions.Slot.{Slot}
use Rattle.wy_code.specs.declared.instructions.Instr.TheVariants.{Const, Put}
use Rattle.wy_code.specs.declared.routines.Routine.{Routine}
use Rattle.wy_code.specs.declared.routines.Code.{Code}
use Rattle.wy_code_spec.specs.step.Step.{Frame, Caller, instr_at}
use Rattle.wy_mach.specs.Showing.{Shows, IsNoInt}
use Rattle.wy_mach.specs.declared.frames.Frame as of_frames
use Rattle.wy_mach.specs.declared.frames.Caller as of_callers
use Rattle.wy_mach.specs.declared.machine.Machine.{Machine}

-- what the registers of callers hold
abbrev pub places_below : List of_callers.Caller → List Part
places_below [] = []
places_below (c ∷ cs) = c.frame.registers.items ++ places_below cs

-- the callers of a machine, the last first
abbrev pub callers_of : Machine → List of_callers.Caller
callers_of k = reverse k.callers.items

-- all that the machine's registers hold
abbrev pub places_of : Machine → List Part
places_of k = k.frame.registers.items ++ places_below (callers_of k)

-- each constant of the code that is a number is an `int`
abbrev pub HasInts : Code → Type 0
HasInts code = (f at d : ℕ) (c : Scalar) → instr_at (slice_get code.routines f) at ≡ Some (Const d c) → IsNoInt c → ⊥

-- the path of the instruction, where it has one, is no longer than this
abbrev pub InstrPathFits : Instr → ℕ → Type 0
InstrPathFits i most = (a : ℕ) (path : List Slot) (v : ℕ) → i ≡ Put a path v → length path ≤ most

-- no path of these instructions is longer than this
abbrev pub BodyPathsFit : List Instr → ℕ → Type 0
BodyPathsFit body most = (at : ℕ) (i : Instr) → slice_get body at ≡ Some i → InstrPathFits i most

-- no path of these routines is longer than this
abbrev pub RoutinesPathsFit : List Routine → ℕ → Type 0
RoutinesPathsFit routines most = (f : ℕ) (r : Routine) → slice_get routines f ≡ Some r → BodyPathsFit r.body most

-- no path of the code is longer than this
abbrev pub PathsFit : Code → ℕ → Type 0
PathsFit code most = RoutinesPathsFit code.routines most

-- the machine's registers are all the places of its heap, which extends the code's table of shapes, and there is room for each path of the code
pub record IsMachine (code : Code) (k : Machine) : Type 0 where
  pub stands : Stands k.heap (places_of k)
  pub table : IsShapes code.shapes
  pub extends : Extends code.shapes k.heap.shapes
  pub ints : HasInts code
  pub paths : PathsFit code (vec_capacity k.path)

-- the machine's frame is this one, and its registers show those of that
pub record ShowsFrame (m : Map) (fr : Frame) (f : of_frames.Frame) : Type 0 where
  pub routine : f.routine ≡ fr.routine
  pub at : f.at ≡ fr.at
  pub registers : Shows m fr.registers f.registers.items

pub record ShowsCaller (m : Map) (c : Caller) (f : of_callers.Caller) : Type 0 where
  pub target : f.target ≡ c.target
  pub frame : ShowsFrame m c.frame f.frame

-- the machine's callers are these, each the one in its place
abbrev pub ShowsCallers : Map → List Caller → List of_callers.Caller → Type 0
ShowsCallers m [] fs = fs ≡ []
ShowsCallers m (c ∷ cs) [] = ⊥
ShowsCallers m (c ∷ cs) (f ∷ fs) = ShowsCaller m c f × ShowsCallers m cs fs

-- the machine shows the frame that runs and those that wait for it
pub record ShowsState (k : Machine) (fr : Frame) (cs : List Caller) : Type 0 where
  pub frame : ShowsFrame (map_of k.heap) fr k.frame
  pub callers : ShowsCallers (map_of k.heap) cs (callers_of k)
