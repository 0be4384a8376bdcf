-- The instructions that steps stand for, and the routine that they make.
use Rattle.std.specs.Prelude.{ℕ, suc, ◌+◌, ◌-◌, max, List, [], ◌∷◌}
use Rattle.wy_code.specs.declared.instructions.Slot.{Slot}
use Rattle.wy_code.specs.declared.instructions.Slot.TheVariants as slot
use Rattle.wy_code.specs.declared.instructions.Instr.{Instr}
use Rattle.wy_code.specs.declared.instructions.Instr.TheVariants as instr
use Rattle.wy_code.specs.declared.routines.Routine.{Routine}
use Rattle.wy_code.specs.declared.pieces.steps.Step.{Step}
use Rattle.wy_code.specs.declared.pieces.steps.Step.TheVariants.{Does, GoesOn, GoesBack, GoesOnUnless}

-- ---- instructions

-- the first of these steps has this number
abbrev pub placed : ℕ → List Step → List Instr
placed at [] = []
placed at (Does i ∷ steps) = i ∷ placed (suc at) steps
placed at (GoesOn n ∷ steps) = instr.Jump (suc at + n) ∷ placed (suc at) steps
placed at (GoesBack n ∷ steps) = instr.Jump (at - n) ∷ placed (suc at) steps
placed at (GoesOnUnless r n ∷ steps) = instr.Branch r (suc at + n) ∷ placed (suc at) steps

-- ---- registers

-- one more than the greatest of these
abbrev pub above : List ℕ → ℕ
above [] = 0
above (r ∷ rs) = max (suc r) (above rs)

abbrev pub slot_registers : List Slot → List ℕ
slot_registers [] = []
slot_registers (slot.Item r ∷ path) = r ∷ slot_registers path
slot_registers (slot.Field f ∷ path) = slot_registers path

-- the registers that an instruction names
abbrev pub registers_in : Instr → List ℕ
registers_in (instr.Const d c) = d ∷ []
registers_in (instr.Move d r) = d ∷ r ∷ []
registers_in (instr.Share d r) = d ∷ r ∷ []
registers_in (instr.Clear rs) = rs
registers_in (instr.Arith d op a b) = d ∷ a ∷ b ∷ []
registers_in (instr.Compare d op a b) = d ∷ a ∷ b ∷ []
registers_in (instr.Equal d a b) = d ∷ a ∷ b ∷ []
registers_in (instr.Not d a) = d ∷ a ∷ []
registers_in (instr.Jump t) = []
registers_in (instr.Branch r t) = r ∷ []
registers_in (instr.Array d rs) = d ∷ rs
registers_in (instr.Record d k rs) = d ∷ rs
registers_in (instr.Fill d v n) = d ∷ v ∷ n ∷ []
registers_in (instr.Len d a) = d ∷ a ∷ []
registers_in (instr.Get d a i) = d ∷ a ∷ i ∷ []
registers_in (instr.Field d a f) = d ∷ a ∷ []
registers_in (instr.Put a path v) = a ∷ v ∷ slot_registers path
registers_in (instr.Kind d a k) = d ∷ a ∷ []
registers_in (instr.Call d f rs) = d ∷ rs
registers_in (instr.Return r) = r ∷ []
registers_in (instr.Print a) = a ∷ []
registers_in (instr.PrintInt a) = a ∷ []

-- how many registers instructions need
abbrev pub room : List Instr → ℕ
room [] = 0
room (i ∷ is) = max (above (registers_in i)) (room is)

-- ---- routines

-- a routine with so many parameters, and as many registers as it needs
abbrev pub routine_of : ℕ → List Step → Routine
routine_of params steps = record { registers = max params (room (placed 0 steps)); params = params; body = placed 0 steps }
