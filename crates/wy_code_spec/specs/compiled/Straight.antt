-- Values that come straight into the register of a variable: the last instruction of their code names that register in place of a free one.
use Rattle.std.specs.Prelude.{ℕ, suc, ◌++◌, List, [], ◌∷◌, Bool, true, false, cond, is_some, pos}
use Rattle.wy_core.specs.CoreTree.{Expr, NullExpr, BoolExpr, IntExpr, VarExpr, CallExpr, NegExpr, NotExpr, LenExpr, BinaryExpr, IsExpr, IndexExpr, FieldExpr, ListExpr, RepeatExpr, RecordExpr, QuantExpr}
use Rattle.wy_core.specs.declared.expressions.Op.{Op}
use Rattle.wy_core.specs.declared.expressions.Op.TheVariants as op
use Rattle.wy_live.specs.Sets.{Variables, has}
use Rattle.wy_live.specs.Walks.{before}
use Rattle.wy_code.specs.declared.instructions.Scalar.TheVariants as scalar
use Rattle.wy_code.specs.declared.instructions.Arithmetic.TheVariants as arithmetic
use Rattle.wy_code.specs.declared.instructions.Instr.TheVariants as instr
use Rattle.wy_code_spec.specs.declared.tables.context.Context.{Context}
use Rattle.wy_code.specs.declared.pieces.steps.Step.{Step}
use Rattle.wy_code.specs.declared.pieces.steps.Step.TheVariants.{Does}
use Rattle.wy_code_spec.specs.tables.Tables.{number_of}
use Rattle.wy_code_spec.specs.compiled.Operands.{variable_in, read, first_read, second_read, standing, unless_read, plain_or_read}
use Rattle.wy_code_spec.specs.compiled.Expressions.{released, is_plain, operate, right_register, code}

-- one instruction on two numbers, which leaves nothing to be released: `==` may leave a list or a record where an operand stood, and `&&` and `||` have no instruction
abbrev pub is_on_numbers : Op → Bool
is_on_numbers op.Add = true
is_on_numbers op.Sub = true
is_on_numbers op.Mul = true
is_on_numbers op.Div = true
is_on_numbers op.Mod = true
is_on_numbers op.Equal = false
is_on_numbers op.Less = true
is_on_numbers op.LessEqual = true
is_on_numbers op.Greater = true
is_on_numbers op.GreaterEqual = true
is_on_numbers op.And = false
is_on_numbers op.Or = false

-- the last instruction may put the value elsewhere than into the free register: no list and no record that was an operand stays there, so that of which a part is taken is read in its register
abbrev pub is_straight : {N : Type 0} → Expr N → Variables → Bool
is_straight (NullExpr at) s = true
is_straight (BoolExpr at truth) s = true
is_straight (IntExpr at number) s = true
is_straight (VarExpr at x) s = true
is_straight (CallExpr at f args) s = false
is_straight (NegExpr at a) s = true
is_straight (NotExpr at a) s = true
is_straight (LenExpr at a) s = is_some (read a s)
is_straight (BinaryExpr at o a b) s = is_on_numbers o
is_straight (IsExpr at a ty) s = false
is_straight (IndexExpr at a b) s = is_some (read a s)
is_straight (FieldExpr at a name) s = is_some (read a s)
is_straight (ListExpr at items) s = false
is_straight (RepeatExpr at a b) s = false
is_straight (RecordExpr at fs) s = false
is_straight (QuantExpr at all x a b body) s = false

-- the number in r is taken from 0 in the register behind d, and what comes of it comes into t
abbrev pub negated_into : ℕ → ℕ → ℕ → List Step
negated_into d t r = Does (instr.Const (suc d) (scalar.Int (pos 0))) ∷ Does (instr.Arith t arithmetic.Sub (suc d) r) ∷ []

-- the code of an expression behind which this is live, whose operands come into the registers from d on: where it is straight, its value comes into t
abbrev pub into : Context → Expr ℕ → Variables → ℕ → ℕ → List Step
into c (NullExpr at) s d t = Does (instr.Const t scalar.Null) ∷ []
into c (BoolExpr at truth) s d t = Does (instr.Const t (scalar.Bool truth)) ∷ []
into c (IntExpr at number) s d t = Does (instr.Const t (scalar.Int number)) ∷ []
into c (VarExpr at x) s d t = Does (cond (has s x) (instr.Share t x) (instr.Move t x)) ∷ []
into c (CallExpr at f args) s d t = code c (CallExpr at f args) s d
into c (NegExpr at a) s d t = unless_read (variable_in a) (code c a s d) ++ negated_into d t (standing (variable_in a) d)
into c (NotExpr at a) s d t = unless_read (variable_in a) (code c a s d) ++ Does (instr.Not t (standing (variable_in a) d)) ∷ []
into c (LenExpr at a) s d t = unless_read (read a s) (code c a s d) ++ Does (instr.Len t (standing (read a s) d)) ∷ []
into c (BinaryExpr at o a b) s d t =
    unless_read (first_read o a b s) (code c a (before b s) d)
    ++ operate o t (standing (first_read o a b s) d) (standing (second_read o b s) (right_register o d)) (unless_read (second_read o b s) (code c b s (right_register o d)))
    (released (before b s) s) (plain_or_read (second_read o b s) (is_plain b))
into c (IsExpr at a ty) s d t = code c (IsExpr at a ty) s d
into c (IndexExpr at a b) s d t =
    unless_read (read a s) (code c a (before b s) d)
    ++ (unless_read (variable_in b) (code c b s (suc d)) ++ Does (instr.Get t (standing (read a s) d) (standing (variable_in b) (suc d))) ∷ [])
into c (FieldExpr at a name) s d t = unless_read (read a s) (code c a s d) ++ Does (instr.Field t (standing (read a s) d) (number_of name c.table.names)) ∷ []
into c (ListExpr at items) s d t = code c (ListExpr at items) s d
into c (RepeatExpr at a b) s d t = code c (RepeatExpr at a b) s d
into c (RecordExpr at fs) s d t = code c (RecordExpr at fs) s d
into c (QuantExpr at all x a b body) s d t = code c (QuantExpr at all x a b body) s d
