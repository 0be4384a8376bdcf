-- What the numbers in code name: registers of the frame, instructions of the routine, shapes and names of fields in the table.
use Rattle.std.specs.Prelude.{ℕ, ◌≤◌, ◌<◌, List, [], ◌∷◌, length, All}
use Rattle.wy_code.specs.declared.instructions.Kind.{Kind}
use Rattle.wy_code.specs.declared.instructions.Kind.TheVariants as kind
use Rattle.wy_code.specs.declared.instructions.Slot.{Slot}
use Rattle.wy_code.specs.declared.instructions.Slot.TheVariants as slot
use Rattle.wy_code.specs.declared.instructions.Instr.{Instr}
use Rattle.wy_code.specs.declared.instructions.Instr.TheVariants as instr
use Rattle.wy_code.specs.declared.routines.Routine.{Routine}
use Rattle.wy_value.specs.declared.shapes.Shapes.{Shapes}
use Rattle.wy_code.specs.pieces.Placing.{registers_in}

-- where an instruction may go, other than behind it
abbrev pub targets_in : Instr → List ℕ
targets_in (instr.Const d c) = []
targets_in (instr.Move d r) = []
targets_in (instr.Share d r) = []
targets_in (instr.Clear rs) = []
targets_in (instr.Arith d op a b) = []
targets_in (instr.Compare d op a b) = []
targets_in (instr.Equal d a b) = []
targets_in (instr.Not d a) = []
targets_in (instr.Jump t) = t ∷ []
targets_in (instr.Branch r t) = t ∷ []
targets_in (instr.Array d rs) = []
targets_in (instr.Record d k rs) = []
targets_in (instr.Fill d v n) = []
targets_in (instr.Len d a) = []
targets_in (instr.Get d a i) = []
targets_in (instr.Field d a f) = []
targets_in (instr.Put a path v) = []
targets_in (instr.Kind d a k) = []
targets_in (instr.Call d f rs) = []
targets_in (instr.Return r) = []
targets_in (instr.Print a) = []
targets_in (instr.PrintInt a) = []

-- the shape that a test of a kind asks for
abbrev pub kind_shapes : Kind → List ℕ
kind_shapes kind.Null = []
kind_shapes kind.Bool = []
kind_shapes kind.Int = []
kind_shapes kind.Array = []
kind_shapes (kind.Shape k) = k ∷ []

-- the shapes that an instruction names
abbrev pub shapes_in : Instr → List ℕ
shapes_in (instr.Const d c) = []
shapes_in (instr.Move d r) = []
shapes_in (instr.Share d r) = []
shapes_in (instr.Clear rs) = []
shapes_in (instr.Arith d op a b) = []
shapes_in (instr.Compare d op a b) = []
shapes_in (instr.Equal d a b) = []
shapes_in (instr.Not d a) = []
shapes_in (instr.Jump t) = []
shapes_in (instr.Branch r t) = []
shapes_in (instr.Array d rs) = []
shapes_in (instr.Record d k rs) = k ∷ []
shapes_in (instr.Fill d v n) = []
shapes_in (instr.Len d a) = []
shapes_in (instr.Get d a i) = []
shapes_in (instr.Field d a f) = []
shapes_in (instr.Put a path v) = []
shapes_in (instr.Kind d a k) = kind_shapes k
shapes_in (instr.Call d f rs) = []
shapes_in (instr.Return r) = []
shapes_in (instr.Print a) = []
shapes_in (instr.PrintInt a) = []

abbrev pub slot_fields : List Slot → List ℕ
slot_fields [] = []
slot_fields (slot.Item r ∷ path) = slot_fields path
slot_fields (slot.Field f ∷ path) = f ∷ slot_fields path

-- the names of fields that an instruction names by their numbers
abbrev pub fields_in : Instr → List ℕ
fields_in (instr.Const d c) = []
fields_in (instr.Move d r) = []
fields_in (instr.Share d r) = []
fields_in (instr.Clear rs) = []
fields_in (instr.Arith d op a b) = []
fields_in (instr.Compare d op a b) = []
fields_in (instr.Equal d a b) = []
fields_in (instr.Not d a) = []
fields_in (instr.Jump t) = []
fields_in (instr.Branch r t) = []
fields_in (instr.Array d rs) = []
fields_in (instr.Record d k rs) = []
fields_in (instr.Fill d v n) = []
fields_in (instr.Len d a) = []
fields_in (instr.Get d a i) = []
fields_in (instr.Field d a f) = f ∷ []
fields_in (instr.Put a path v) = slot_fields path
fields_in (instr.Kind d a k) = []
fields_in (instr.Call d f rs) = []
fields_in (instr.Return r) = []
fields_in (instr.Print a) = []
fields_in (instr.PrintInt a) = []

-- the routines that an instruction calls
abbrev pub routines_in : Instr → List ℕ
routines_in (instr.Const d c) = []
routines_in (instr.Move d r) = []
routines_in (instr.Share d r) = []
routines_in (instr.Clear rs) = []
routines_in (instr.Arith d op a b) = []
routines_in (instr.Compare d op a b) = []
routines_in (instr.Equal d a b) = []
routines_in (instr.Not d a) = []
routines_in (instr.Jump t) = []
routines_in (instr.Branch r t) = []
routines_in (instr.Array d rs) = []
routines_in (instr.Record d k rs) = []
routines_in (instr.Fill d v n) = []
routines_in (instr.Len d a) = []
routines_in (instr.Get d a i) = []
routines_in (instr.Field d a f) = []
routines_in (instr.Put a path v) = []
routines_in (instr.Kind d a k) = []
routines_in (instr.Call d f rs) = f ∷ []
routines_in (instr.Return r) = []
routines_in (instr.Print a) = []
routines_in (instr.PrintInt a) = []

-- the frame has each register that is named and room for the parameters, and each jump goes to an instruction of the routine
pub record IsFramed (r : Routine) : Type 0 where
  pub params : r.params ≤ r.registers
  pub registers : All (λ i. All (λ n. n < r.registers) (registers_in i)) r.body
  pub jumps : All (λ i. All (λ t. t < length r.body) (targets_in i)) r.body

-- each shape and each name of a field that is named stands in the table of the program
pub record IsNamed (table : Shapes) (r : Routine) : Type 0 where
  pub shapes : All (λ i. All (λ k. k < length table.lists) (shapes_in i)) r.body
  pub fields : All (λ i. All (λ f. f < length table.names) (fields_in i)) r.body

-- each call is one of a routine of the program
abbrev pub CallsBelow : ℕ → Routine → Type 0
CallsBelow n r = All (λ i. All (λ f. f < n) (routines_in i)) r.body
