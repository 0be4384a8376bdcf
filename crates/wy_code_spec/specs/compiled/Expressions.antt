-- The code of an expression. Its value comes into a register, and the registers behind that one are free.
use Rattle.std.specs.Prelude.{ℕ, zero, suc, ◌+◌, List, [], ◌∷◌, ◌++◌, length, Bool, true, false, not, ◌&&◌, cond, Option, Some, None, pos}
use Rattle.wy_core.specs.CoreTree.{Expr, NullExpr, BoolExpr, IntExpr, VarExpr, CallExpr, NegExpr, NotExpr, LenExpr, BinaryExpr, IsExpr, IndexExpr, FieldExpr, ListExpr, RepeatExpr, RecordExpr, QuantExpr, Exprs, NoExprs, MoreExprs, Fields, NoFields, MoreFields}
use Rattle.wy_core.specs.Types.{Ty}
use Rattle.wy_core.specs.declared.expressions.Op.{Op}
use Rattle.wy_core.specs.declared.expressions.Op.TheVariants as op
use Rattle.wy_live.specs.Sets.{Variables, has}
use Rattle.wy_live.specs.Walks.{before, before_all, before_fields, turned}
use Rattle.wy_code.specs.declared.instructions.Scalar.TheVariants as scalar
use Rattle.wy_code.specs.declared.instructions.Arithmetic.{Arithmetic}
use Rattle.wy_code.specs.declared.instructions.Arithmetic.TheVariants as arithmetic
use Rattle.wy_code.specs.declared.instructions.Comparison.{Comparison}
use Rattle.wy_code.specs.declared.instructions.Comparison.TheVariants as comparison
use Rattle.wy_code.specs.declared.instructions.Instr.TheVariants as instr
use Rattle.wy_code_spec.specs.declared.tables.context.Context.{Context}
use Rattle.wy_code_spec.specs.declared.tables.targets.Target.{Target}
use Rattle.wy_code_spec.specs.declared.tables.targets.Target.TheVariants.{Declared, Prints, PrintsInt, Nothing}
use Rattle.wy_code.specs.declared.pieces.steps.Step.{Step}
use Rattle.wy_code.specs.declared.pieces.steps.Step.TheVariants.{Does, GoesOn, GoesOnUnless}
use Rattle.wy_code.specs.pieces.Steps.{clear, dropped, fork, turns, registers_from}
use Rattle.wy_code_spec.specs.tables.Tables.{target, number_of, shape_number, names_in}
use Rattle.wy_code_spec.specs.compiled.TypeTests.{looks, test}
use Rattle.wy_code_spec.specs.compiled.Operands.{variable_in, read, first_read, second_read, standing, unless_read, plain_or_read}

-- ---- what stops being live

-- the first variables of the one set that the other one lacks
abbrev pub lost_below : Variables → Variables → ℕ → List ℕ
lost_below s t zero = []
lost_below s t (suc n) = lost_below s t n ++ cond (has s n && not (has t n)) (n ∷ []) []

-- the variables that are live in the one and not in the other
abbrev pub lost : Variables → Variables → List ℕ
lost s t = lost_below s t (length s)

-- they are released
abbrev pub released : Variables → Variables → List Step
released s t = clear (lost s t)

-- ---- operators

-- what is so of `&&` and `||` where it is so of their right operand, and of each other operator
abbrev pub right_or : Op → Bool → Bool
right_or op.Add right = true
right_or op.Sub right = true
right_or op.Mul right = true
right_or op.Div right = true
right_or op.Mod right = true
right_or op.Equal right = true
right_or op.Less right = true
right_or op.LessEqual right = true
right_or op.Greater right = true
right_or op.GreaterEqual right = true
right_or op.And right = right
right_or op.Or right = right

-- whatever the variables hold, the value is no list and no record: no instruction tests the right operand of `&&` and `||`, nor what the last clause of a type says
abbrev pub is_plain : {N : Type 0} → Expr N → Bool
is_plain (NullExpr at) = true
is_plain (BoolExpr at truth) = true
is_plain (IntExpr at number) = true
is_plain (VarExpr at x) = false
is_plain (CallExpr at routine args) = false
is_plain (NegExpr at a) = true
is_plain (NotExpr at a) = true
is_plain (LenExpr at a) = true
is_plain (BinaryExpr at o a b) = right_or o (is_plain b)
is_plain (IsExpr at a ty) = false
is_plain (IndexExpr at a b) = false
is_plain (FieldExpr at a name) = false
is_plain (ListExpr at items) = false
is_plain (RepeatExpr at a b) = false
is_plain (RecordExpr at fs) = false
is_plain (QuantExpr at all x a b body) = true

-- a register that may hold a list or a record is released
abbrev pub release_unless : Bool → ℕ → List Step
release_unless true r = []
release_unless false r = clear (r ∷ [])

abbrev pub arith : Arithmetic → ℕ → ℕ → ℕ → List Step
arith o d l r = Does (instr.Arith d o l r) ∷ []

abbrev pub compare : Comparison → ℕ → ℕ → ℕ → List Step
compare o d l r = Does (instr.Compare d o l r) ∷ []

abbrev pub equal : Bool → ℕ → ℕ → ℕ → List Step
equal plain d l r = Does (instr.Equal d l r) ∷ release_unless plain r

-- the instruction of an operator on the operands in the registers l and r, with what is released behind it; what comes of it comes into d
abbrev pub operator : Op → ℕ → ℕ → ℕ → Bool → List Step
operator op.Add d l r plain = arith arithmetic.Add d l r
operator op.Sub d l r plain = arith arithmetic.Sub d l r
operator op.Mul d l r plain = arith arithmetic.Mul d l r
operator op.Div d l r plain = arith arithmetic.Div d l r
operator op.Mod d l r plain = arith arithmetic.Mod d l r
operator op.Equal d l r plain = equal plain d l r
operator op.Less d l r plain = compare comparison.Less d l r
operator op.LessEqual d l r plain = compare comparison.LessEqual d l r
operator op.Greater d l r plain = compare comparison.Greater d l r
operator op.GreaterEqual d l r plain = compare comparison.GreaterEqual d l r
operator op.And d l r plain = []
operator op.Or d l r plain = []

-- the operator on both operands; `&&` and `||` leave the second out, and release what it alone would have used. `&&` does so behind the second operand too, where that has given them up
abbrev pub operate : Op → ℕ → ℕ → ℕ → List Step → List Step → Bool → List Step
operate op.Add d l r right skipped plain = right ++ operator op.Add d l r plain
operate op.Sub d l r right skipped plain = right ++ operator op.Sub d l r plain
operate op.Mul d l r right skipped plain = right ++ operator op.Mul d l r plain
operate op.Div d l r right skipped plain = right ++ operator op.Div d l r plain
operate op.Mod d l r right skipped plain = right ++ operator op.Mod d l r plain
operate op.Equal d l r right skipped plain = right ++ operator op.Equal d l r plain
operate op.Less d l r right skipped plain = right ++ operator op.Less d l r plain
operate op.LessEqual d l r right skipped plain = right ++ operator op.LessEqual d l r plain
operate op.Greater d l r right skipped plain = right ++ operator op.Greater d l r plain
operate op.GreaterEqual d l r right skipped plain = right ++ operator op.GreaterEqual d l r plain
operate op.And d l r right skipped plain = fork d right [] ++ skipped
operate op.Or d l r right skipped plain = fork d skipped right

-- the register of the second operand: that of the first, where the first stands no more
abbrev pub right_register : Op → ℕ → ℕ
right_register op.Add d = suc d
right_register op.Sub d = suc d
right_register op.Mul d = suc d
right_register op.Div d = suc d
right_register op.Mod d = suc d
right_register op.Equal d = suc d
right_register op.Less d = suc d
right_register op.LessEqual d = suc d
right_register op.Greater d = suc d
right_register op.GreaterEqual d = suc d
right_register op.And d = d
right_register op.Or d = d

-- ---- calls

-- a call on the arguments in these registers, whose result comes into the first of them; a method without a result gives null
abbrev pub call : Target → ℕ → ℕ → ℕ → List Step
call (Declared gives) f d count = Does (instr.Call d f (registers_from d count)) ∷ []
call Prints f d count = Does (instr.Print d) ∷ Does (instr.Const d scalar.Null) ∷ []
call PrintsInt f d count = Does (instr.PrintInt d) ∷ Does (instr.Const d scalar.Null) ∷ []
call Nothing f d count = Does (instr.Const d scalar.Null) ∷ []

abbrev pub count_of : {N : Type 0} → Exprs N → ℕ
count_of NoExprs = 0
count_of (MoreExprs e es) = suc (count_of es)

abbrev pub field_count : {N : Type 0} → Fields N → ℕ
field_count NoFields = 0
field_count (MoreFields name e fs) = suc (field_count fs)

-- ---- tests of types

-- whether the value in d is in the type comes into d, and the value is released
abbrev pub is_test : Context → Ty → ℕ → List Step
is_test c ty d = test c ty d (suc d) (suc (suc d)) ++ (dropped d (suc (suc d)) ++ Does (instr.Move d (suc d)) ∷ [])

-- what is tested in its register: a variable that is live behind the test, where the test reads it; of one that nothing reads the value would stay
abbrev pub tested_read : {N : Type 0} → Ty → Expr N → Variables → Option ℕ
tested_read ty e s = cond (looks ty) (read e s) None

-- the test of a value in d, or of a variable that stays in its register, of which nothing is released. What it says may be any value, and is read behind the test where that is released
abbrev pub tested : Context → Ty → Option ℕ → ℕ → List Step
tested c ty None d = is_test c ty d
tested c ty (Some x) d = test c ty x (suc d) (suc (suc d)) ++ Does (instr.Move d (suc d)) ∷ []

-- ---- parts put together

-- the number in r is taken from 0, and what comes of it comes into d
abbrev pub negated : ℕ → ℕ → List Step
negated d r = Does (instr.Const (suc d) (scalar.Int (pos 0))) ∷ Does (instr.Arith d arithmetic.Sub (suc d) r) ∷ []

-- an array of so many items, which stand in the registers from d on
abbrev pub list : ℕ → ℕ → List Step
list count d = Does (instr.Array d (registers_from d count)) ∷ []

-- a record of these fields, whose values stand in the registers from d on
abbrev pub record_of : {N : Type 0} → Context → Fields N → ℕ → List Step
record_of c fs d = Does (instr.Record d (shape_number c.table (names_in fs)) (registers_from d (field_count fs))) ∷ []

-- ---- quantifiers

-- where a turn ends it: `all` at false, `some` at true
abbrev pub ends_it : Bool → ℕ → List Step
ends_it true r = []
ends_it false r = Does (instr.Not r r) ∷ []

-- behind the body: where it ends the quantifier, the second end is next; else the next number
abbrev pub turn_end : Bool → ℕ → List Step → List Step
turn_end all d gone =
    ends_it all (suc (suc d))
    ++ GoesOnUnless (suc (suc d)) (length gone + 5) ∷ Does (instr.Const (suc (suc d)) (scalar.Int (pos 1))) ∷ Does (instr.Arith d arithmetic.Add d (suc (suc d))) ∷ []

-- how a quantifier ends: what its body alone used is released, and what it says comes into d
abbrev pub said : ℕ → Bool → List Step → List Step
said d truth gone = gone ++ Does (instr.Const d (scalar.Bool truth)) ∷ []

-- the end behind all turns, and then the one behind a turn that ends it
abbrev pub ends : Bool → ℕ → List Step → List Step
ends all d gone = gone ++ Does (instr.Const d (scalar.Bool all)) ∷ GoesOn (length (said d (not all) gone)) ∷ said d (not all) gone

-- the turns, with what stands behind setting the variable: d counts, suc d has the number behind the last, and suc (suc d) what the body says
abbrev pub number_turns : ℕ → ℕ → List Step → List Step
number_turns x d rest = turns (Does (instr.Compare (suc (suc d)) comparison.Less d (suc d)) ∷ []) (suc (suc d)) (Does (instr.Share x d) ∷ rest)

abbrev pub quantify : Bool → ℕ → ℕ → List Step → List Step → List Step
quantify all x d body gone = number_turns x d (body ++ turn_end all d gone) ++ ends all d gone

abbrev mutual
  -- the code of an expression behind which this is live
  pub code : Context → Expr ℕ → Variables → ℕ → List Step
  code c (NullExpr at) s d = Does (instr.Const d scalar.Null) ∷ []
  code c (BoolExpr at truth) s d = Does (instr.Const d (scalar.Bool truth)) ∷ []
  code c (IntExpr at number) s d = Does (instr.Const d (scalar.Int number)) ∷ []
  -- the last use moves
  code c (VarExpr at x) s d = Does (cond (has s x) (instr.Share d x) (instr.Move d x)) ∷ []
  code c (CallExpr at f args) s d = codes c args s d ++ call (target c.results f) f d (count_of args)
  code c (NegExpr at a) s d = unless_read (variable_in a) (code c a s d) ++ negated d (standing (variable_in a) d)
  code c (NotExpr at a) s d = unless_read (variable_in a) (code c a s d) ++ Does (instr.Not d (standing (variable_in a) d)) ∷ []
  code c (LenExpr at a) s d = unless_read (read a s) (code c a s d) ++ Does (instr.Len d (standing (read a s) d)) ∷ []
  code c (BinaryExpr at o a b) s d =
      unless_read (first_read o a b s) (code c a (before b s) d)
      ++ operate o d (standing (first_read o a b s) d) (standing (second_read o b s) (right_register o d)) (unless_read (second_read o b s) (code c b s (right_register o d)))
      (released (before b s) s) (plain_or_read (second_read o b s) (is_plain b))
  code c (IsExpr at a ty) s d = unless_read (tested_read ty a s) (code c a s d) ++ tested c ty (tested_read ty a s) d
  code c (IndexExpr at a b) s d =
      unless_read (read a s) (code c a (before b s) d)
      ++ (unless_read (variable_in b) (code c b s (suc d)) ++ Does (instr.Get d (standing (read a s) d) (standing (variable_in b) (suc d))) ∷ [])
  code c (FieldExpr at a name) s d = unless_read (read a s) (code c a s d) ++ Does (instr.Field d (standing (read a s) d) (number_of name c.table.names)) ∷ []
  code c (ListExpr at items) s d = codes c items s d ++ list (count_of items) d
  code c (RepeatExpr at a b) s d = code c a (before b s) d ++ (code c b s (suc d) ++ Does (instr.Fill d d (suc d)) ∷ [])
  code c (RecordExpr at fs) s d = field_codes c fs s d ++ record_of c fs d
  code c (QuantExpr at all x a b body) s d =
      code c a (before b (turned x body s)) d
      ++ (code c b (turned x body s) (suc d) ++ quantify all x d (code c body (turned x body s) (suc (suc d))) (released (turned x body s) s))

  -- each into the register behind the one before
  pub codes : Context → Exprs ℕ → Variables → ℕ → List Step
  codes c NoExprs s d = []
  codes c (MoreExprs e es) s d = code c e (before_all es s) d ++ codes c es s (suc d)

  pub field_codes : Context → Fields ℕ → Variables → ℕ → List Step
  field_codes c NoFields s d = []
  field_codes c (MoreFields name e fs) s d = code c e (before_fields fs s) d ++ field_codes c fs s (suc d)

-- the turns of a quantifier and its ends
abbrev pub quantify_code : Context → Bool → ℕ → Expr ℕ → Variables → ℕ → List Step
quantify_code c all x body s d = quantify all x d (code c body (turned x body s) (suc (suc d))) (released (turned x body s) s)
