-- What does a machine ask of code?
use Rattle.std.specs.Prelude.{All}
use Rattle.wy_code.specs.declared.instructions.Scalar.{Scalar}
use Rattle.wy_code.specs.declared.instructions.Scalar.TheVariants as scalar
use Rattle.wy_code.specs.declared.instructions.Instr.{Instr}
use Rattle.wy_code.specs.declared.instructions.Instr.TheVariants as instr
use Rattle.wy_code.specs.declared.routines.Routine.{Routine}
use Rattle.wy_code.specs.declared.routines.Code.{Code}
use Rattle.wy_core.specs.formed.Literals.{IsInt}
use Rattle.wy_value.specs.Shapes.{IsShapes}

-- a constant that is a number is an `int`
abbrev pub IsFine : Scalar → Type 0
IsFine scalar.Null = Unit {0}
IsFine (scalar.Bool b) = Unit {0}
IsFine (scalar.Int z) = IsInt z

-- so is what the instruction puts into a register
abbrev pub PutsInt : Instr → Type 0
PutsInt (instr.Const d c) = IsFine c
PutsInt _ = Unit {0}

-- each instruction of the routine
abbrev pub PutsInts : Routine → Type 0
PutsInts r = All PutsInt r.body

-- the table of shapes is one that a heap takes, and each number in the code is an `int`
pub record IsLoadable (code : Code) : Type 0 where
  pub table : IsShapes code.shapes
  pub ints : All PutsInts code.routines
