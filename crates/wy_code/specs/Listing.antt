-- How code is written.
use Rattle.std.specs.Prelude.{ℕ, suc, true, false, List, [], ◌∷◌, ◌++◌, codes}
use Rattle.std.specs.Fmt.{decimal, signed_decimal}
use Rattle.wy_code.specs.declared.instructions.Scalar.{Scalar}
use Rattle.wy_code.specs.declared.instructions.Scalar.TheVariants as scalar
use Rattle.wy_code.specs.declared.instructions.Arithmetic.{Arithmetic}
use Rattle.wy_code.specs.declared.instructions.Arithmetic.TheVariants as arithmetic
use Rattle.wy_code.specs.declared.instructions.Comparison.{Comparison}
use Rattle.wy_code.specs.declared.instructions.Comparison.TheVariants as comparison
use Rattle.wy_code.specs.declared.instructions.Slot.{Slot}
use Rattle.wy_code.specs.declared.instructions.Slot.TheVariants as slot
use Rattle.wy_code.specs.declared.instructions.Kind.{Kind}
use Rattle.wy_code.specs.declared.instructions.Kind.TheVariants as kind
use Rattle.wy_code.specs.declared.instructions.Instr.{Instr}
use Rattle.wy_code.specs.declared.instructions.Instr.TheVariants as instr
use Rattle.wy_code.specs.declared.routines.Routine.{Routine}
use Rattle.wy_code.specs.declared.routines.Code.{Code}

-- ---- operands, each behind a space

-- `r2`
abbrev pub register_text : ℕ → List ℕ
register_text r = 32 ∷ 114 ∷ decimal r

-- a number that is no register
abbrev pub operand_text : ℕ → List ℕ
operand_text n = 32 ∷ decimal n

-- `, r3, r4`
abbrev pub more_registers : List ℕ → List ℕ
more_registers [] = []
more_registers (r ∷ rs) = codes ", r" ++ (decimal r ++ more_registers rs)

-- `[r2, r3, r4]`
abbrev pub registers_text : List ℕ → List ℕ
registers_text [] = codes " []"
registers_text (r ∷ rs) = codes " [r" ++ (decimal r ++ (more_registers rs ++ codes "]"))

-- `null`, `true`, `false` or a number, as values are written
abbrev pub scalar_text : Scalar → List ℕ
scalar_text scalar.Null = codes " null"
scalar_text (scalar.Bool true) = codes " true"
scalar_text (scalar.Bool false) = codes " false"
scalar_text (scalar.Int z) = 32 ∷ signed_decimal z

-- `+ - * / %`
abbrev pub arithmetic_text : Arithmetic → List ℕ
arithmetic_text arithmetic.Add = codes " +"
arithmetic_text arithmetic.Sub = codes " -"
arithmetic_text arithmetic.Mul = codes " *"
arithmetic_text arithmetic.Div = codes " /"
arithmetic_text arithmetic.Mod = codes " %"

-- `< <= > >=`
abbrev pub comparison_text : Comparison → List ℕ
comparison_text comparison.Less = codes " <"
comparison_text comparison.LessEqual = codes " <="
comparison_text comparison.Greater = codes " >"
comparison_text comparison.GreaterEqual = codes " >="

-- `null`, `bool`, `int`, `array` or `shape 0`
abbrev pub kind_text : Kind → List ℕ
kind_text kind.Null = codes " null"
kind_text kind.Bool = codes " bool"
kind_text kind.Int = codes " int"
kind_text kind.Array = codes " array"
kind_text (kind.Shape s) = codes " shape" ++ operand_text s

-- `[r2]` or `.0`, behind nothing
abbrev pub slot_text : Slot → List ℕ
slot_text (slot.Item r) = codes "[r" ++ (decimal r ++ codes "]")
slot_text (slot.Field f) = codes "." ++ decimal f

-- `, [r3], .1`
abbrev pub more_slots : List Slot → List ℕ
more_slots [] = []
more_slots (s ∷ ss) = codes ", " ++ (slot_text s ++ more_slots ss)

-- `[[r2], .0]`
abbrev pub path_text : List Slot → List ℕ
path_text [] = codes " []"
path_text (s ∷ ss) = codes " [" ++ (slot_text s ++ (more_slots ss ++ codes "]"))

-- ---- instructions and routines

-- a name and its operands
abbrev pub instr_text : Instr → List ℕ
instr_text (instr.Const d c) = codes "Const" ++ (register_text d ++ scalar_text c)
instr_text (instr.Move d r) = codes "Move" ++ (register_text d ++ register_text r)
instr_text (instr.Share d r) = codes "Share" ++ (register_text d ++ register_text r)
instr_text (instr.Clear rs) = codes "Clear" ++ registers_text rs
instr_text (instr.Arith d op a b) = codes "Arith" ++ (register_text d ++ (arithmetic_text op ++ (register_text a ++ register_text b)))
instr_text (instr.Compare d op a b) = codes "Compare" ++ (register_text d ++ (comparison_text op ++ (register_text a ++ register_text b)))
instr_text (instr.Equal d a b) = codes "Equal" ++ (register_text d ++ (register_text a ++ register_text b))
instr_text (instr.Not d a) = codes "Not" ++ (register_text d ++ register_text a)
instr_text (instr.Jump t) = codes "Jump" ++ operand_text t
instr_text (instr.Branch r t) = codes "Branch" ++ (register_text r ++ operand_text t)
instr_text (instr.Array d rs) = codes "Array" ++ (register_text d ++ registers_text rs)
instr_text (instr.Record d s rs) = codes "Record" ++ (register_text d ++ (operand_text s ++ registers_text rs))
instr_text (instr.Fill d v n) = codes "Fill" ++ (register_text d ++ (register_text v ++ register_text n))
instr_text (instr.Len d a) = codes "Len" ++ (register_text d ++ register_text a)
instr_text (instr.Get d a i) = codes "Get" ++ (register_text d ++ (register_text a ++ register_text i))
instr_text (instr.Field d a f) = codes "Field" ++ (register_text d ++ (register_text a ++ operand_text f))
instr_text (instr.Put a path v) = codes "Put" ++ (register_text a ++ (path_text path ++ register_text v))
instr_text (instr.Kind d a k) = codes "Kind" ++ (register_text d ++ (register_text a ++ kind_text k))
instr_text (instr.Call d f rs) = codes "Call" ++ (register_text d ++ (operand_text f ++ registers_text rs))
instr_text (instr.Return r) = codes "Return" ++ register_text r
instr_text (instr.Print a) = codes "Print" ++ register_text a
instr_text (instr.PrintInt a) = codes "PrintInt" ++ register_text a

-- each on a line behind two spaces
abbrev pub body_text : List Instr → List ℕ
body_text [] = []
body_text (i ∷ is) = codes "  " ++ (instr_text i ++ (10 ∷ body_text is))

-- a line with its number, and its instructions
abbrev pub routine_text : ℕ → Routine → List ℕ
routine_text number r = codes "routine " ++ (decimal number ++ (10 ∷ body_text r.body))

-- routines in order, the first of which has this number
abbrev pub routines_text : ℕ → List Routine → List ℕ
routines_text number [] = []
routines_text number (r ∷ rs) = routine_text number r ++ routines_text (suc number) rs

-- the text of the code
abbrev pub code_text : Code → List ℕ
code_text code = routines_text 0 code.routines
