-- Operands that are variables: they are read in the register of their variable.
use Rattle.std.specs.Prelude.{ℕ, List, [], Bool, true, false, cond, Option, Some, None}
use Rattle.wy_core.specs.CoreTree.{Expr, NullExpr, BoolExpr, IntExpr, VarExpr, CallExpr, NegExpr, NotExpr, LenExpr, BinaryExpr, IsExpr, IndexExpr, FieldExpr, ListExpr, RepeatExpr, RecordExpr, QuantExpr}
use Rattle.wy_core.specs.declared.expressions.Op.{Op}
use Rattle.wy_core.specs.declared.expressions.Op.TheVariants as op
use Rattle.wy_live.specs.Sets.{Variables, has}
use Rattle.wy_code.specs.declared.pieces.steps.Step.{Step}

-- the variable that an expression is
abbrev pub variable_in : {N : Type 0} → Expr N → Option ℕ
variable_in (NullExpr at) = None
variable_in (BoolExpr at truth) = None
variable_in (IntExpr at number) = None
variable_in (VarExpr at x) = Some x
variable_in (CallExpr at f args) = None
variable_in (NegExpr at a) = None
variable_in (NotExpr at a) = None
variable_in (LenExpr at a) = None
variable_in (BinaryExpr at o a b) = None
variable_in (IsExpr at a ty) = None
variable_in (IndexExpr at a b) = None
variable_in (FieldExpr at a name) = None
variable_in (ListExpr at items) = None
variable_in (RepeatExpr at a b) = None
variable_in (RecordExpr at fs) = None
variable_in (QuantExpr at all x a b body) = None

-- where it is live
abbrev pub where_live : Option ℕ → Variables → Option ℕ
where_live None s = None
where_live (Some x) s = cond (has s x) (Some x) None

-- a variable or a number: what stands in the other registers stays there while it is evaluated, and nothing is given up
abbrev pub is_still : {N : Type 0} → Expr N → Bool
is_still (NullExpr at) = false
is_still (BoolExpr at truth) = false
is_still (IntExpr at number) = true
is_still (VarExpr at x) = true
is_still (CallExpr at f args) = false
is_still (NegExpr at a) = false
is_still (NotExpr at a) = false
is_still (LenExpr at a) = false
is_still (BinaryExpr at o a b) = false
is_still (IsExpr at a ty) = false
is_still (IndexExpr at a b) = false
is_still (FieldExpr at a name) = false
is_still (ListExpr at items) = false
is_still (RepeatExpr at a b) = false
is_still (RecordExpr at fs) = false
is_still (QuantExpr at all x a b body) = false

-- what is read in its register of an operand of an operation behind which this is live: a variable that is live there keeps its value till then
abbrev pub read : {N : Type 0} → Expr N → Variables → Option ℕ
read e s = where_live (variable_in e) s

-- the same of a first number, in front of a second one: where that is still, the variable needn't be live behind the operation
abbrev pub read_first : {N : Type 0} → Expr N → Expr N → Variables → Option ℕ
read_first a b s = cond (is_still b) (variable_in a) (read a s)

-- what is read in its register of the first operand of an operator
abbrev pub first_read : {N : Type 0} → Op → Expr N → Expr N → Variables → Option ℕ
first_read op.Add a b s = read_first a b s
first_read op.Sub a b s = read_first a b s
first_read op.Mul a b s = read_first a b s
first_read op.Div a b s = read_first a b s
first_read op.Mod a b s = read_first a b s
first_read op.Equal a b s = read a s
first_read op.Less a b s = read_first a b s
first_read op.LessEqual a b s = read_first a b s
first_read op.Greater a b s = read_first a b s
first_read op.GreaterEqual a b s = read_first a b s
first_read op.And a b s = None
first_read op.Or a b s = None

-- and of the second one, behind which only the operation comes
abbrev pub second_read : {N : Type 0} → Op → Expr N → Variables → Option ℕ
second_read op.Add b s = variable_in b
second_read op.Sub b s = variable_in b
second_read op.Mul b s = variable_in b
second_read op.Div b s = variable_in b
second_read op.Mod b s = variable_in b
second_read op.Equal b s = read b s
second_read op.Less b s = variable_in b
second_read op.LessEqual b s = variable_in b
second_read op.Greater b s = variable_in b
second_read op.GreaterEqual b s = variable_in b
second_read op.And b s = None
second_read op.Or b s = None

-- the register of an operand: its variable's, or the one that it is evaluated into
abbrev pub standing : Option ℕ → ℕ → ℕ
standing None d = d
standing (Some x) d = x

-- the code of an operand: none of one that is read in its register
abbrev pub unless_read : Option ℕ → List Step → List Step
unless_read None steps = steps
unless_read (Some x) steps = []

-- nothing has to be released of an operand that is read in its register
abbrev pub plain_or_read : Option ℕ → Bool → Bool
plain_or_read None plain = plain
plain_or_read (Some x) plain = true
