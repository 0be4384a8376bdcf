-- The code of a value that comes straight into a register: it is that of the expression, but for the register that its last instruction names.
use Rattle.std.proofs.Common.{◌≡◌, ◌∙◌, ◌+◌, ℕ, suc, Bool, List, [], ◌∷◌, ◌++◌, length, refl, ap, sym, length-append}
use Rattle.wy_core.specs.CoreTree.{Expr, NullExpr, BoolExpr, IntExpr, VarExpr, CallExpr, NegExpr, NotExpr, LenExpr, BinaryExpr, IsExpr, IndexExpr, FieldExpr, ListExpr, RepeatExpr, RecordExpr, QuantExpr}
use Rattle.wy_core.specs.declared.expressions.Op.{Op}
use Rattle.wy_core.specs.declared.expressions.Op.TheVariants as op
use Rattle.wy_live.specs.Sets.{Variables}
use Rattle.wy_live.specs.Walks.{before}
use Rattle.wy_code.specs.declared.instructions.Instr.TheVariants as instr
use Rattle.wy_code.specs.declared.pieces.steps.Step.{Step}
use Rattle.wy_code.specs.declared.pieces.steps.Step.TheVariants.{Does}
use Rattle.wy_code.specs.pieces.Steps.{fork, where_true}
use Rattle.wy_code_spec.specs.declared.tables.context.Context.{Context}
use Rattle.wy_code_spec.specs.tables.Tables.{number_of}
use Rattle.wy_code_spec.specs.compiled.Operands.{variable_in, read, first_read, second_read, standing, unless_read, plain_or_read}
use Rattle.wy_code_spec.specs.compiled.Expressions.{released, is_plain, operator, operate, right_register, negated, code}
use Rattle.wy_code_spec.specs.compiled.Straight.{negated_into, into}

-- ---- the code of an expression is the one that comes straight into its own register

pub code_is_into : (c : Context) (e : Expr ℕ) (s : Variables) (d : ℕ) → code c e s d ≡ into c e s d d
code_is_into c (NullExpr at) s d = refl
code_is_into c (BoolExpr at truth) s d = refl
code_is_into c (IntExpr at number) s d = refl
code_is_into c (VarExpr at x) s d = refl
code_is_into c (CallExpr at f args) s d = refl
code_is_into c (NegExpr at a) s d = refl
code_is_into c (NotExpr at a) s d = refl
code_is_into c (LenExpr at a) s d = refl
code_is_into c (BinaryExpr at o a b) s d = refl
code_is_into c (IsExpr at a ty) s d = refl
code_is_into c (IndexExpr at a b) s d = refl
code_is_into c (FieldExpr at a name) s d = refl
code_is_into c (ListExpr at items) s d = refl
code_is_into c (RepeatExpr at a b) s d = refl
code_is_into c (RecordExpr at fs) s d = refl
code_is_into c (QuantExpr at all x a b body) s d = refl

-- ---- it has as many steps, whatever its register

same_end : (xs ys zs : List Step) → length ys ≡ length zs → length (xs ++ ys) ≡ length (xs ++ zs)
same_end xs ys zs h = length-append xs ys ∙ ap (λ (n : ℕ). length xs + n) h ∙ sym (length-append xs zs)

where_length : (r q : ℕ) (first : List Step) → length (where_true r first) ≡ length (where_true q first)
where_length r q [] = refl
where_length r q (s ∷ first) = refl

fork_length : (r q : ℕ) (first second : List Step) → length (fork r first second) ≡ length (fork q first second)
fork_length r q first [] = where_length r q first
fork_length r q first (s ∷ second) = refl

operate_length : (o : Op) (t d l r : ℕ) (right skipped : List Step) (plain : Bool) → length (operate o t l r right skipped plain) ≡ length (operate o d l r right skipped plain)
operate_length op.Add t d l r right skipped plain = same_end right (operator op.Add t l r plain) (operator op.Add d l r plain) refl
operate_length op.Sub t d l r right skipped plain = same_end right (operator op.Sub t l r plain) (operator op.Sub d l r plain) refl
operate_length op.Mul t d l r right skipped plain = same_end right (operator op.Mul t l r plain) (operator op.Mul d l r plain) refl
operate_length op.Div t d l r right skipped plain = same_end right (operator op.Div t l r plain) (operator op.Div d l r plain) refl
operate_length op.Mod t d l r right skipped plain = same_end right (operator op.Mod t l r plain) (operator op.Mod d l r plain) refl
operate_length op.Equal t d l r right skipped plain = same_end right (operator op.Equal t l r plain) (operator op.Equal d l r plain) refl
operate_length op.Less t d l r right skipped plain = same_end right (operator op.Less t l r plain) (operator op.Less d l r plain) refl
operate_length op.LessEqual t d l r right skipped plain = same_end right (operator op.LessEqual t l r plain) (operator op.LessEqual d l r plain) refl
operate_length op.Greater t d l r right skipped plain = same_end right (operator op.Greater t l r plain) (operator op.Greater d l r plain) refl
operate_length op.GreaterEqual t d l r right skipped plain = same_end right (operator op.GreaterEqual t l r plain) (operator op.GreaterEqual d l r plain) refl
operate_length op.And t d l r right skipped plain = length-append (fork t right []) skipped ∙ ap (λ (n : ℕ). n + length skipped) (fork_length t d right []) ∙ sym (length-append (fork d right []) skipped)
operate_length op.Or t d l r right skipped plain = fork_length t d skipped right

pub into_length : (c : Context) (e : Expr ℕ) (s : Variables) (d t : ℕ) → length (into c e s d t) ≡ length (code c e s d)
into_length c (NullExpr at) s d t = refl
into_length c (BoolExpr at truth) s d t = refl
into_length c (IntExpr at number) s d t = refl
into_length c (VarExpr at x) s d t = refl
into_length c (CallExpr at f args) s d t = refl
into_length c (NegExpr at a) s d t = same_end (unless_read (variable_in a) (code c a s d)) (negated_into d t (standing (variable_in a) d)) (negated d (standing (variable_in a) d)) refl
into_length c (NotExpr at a) s d t = same_end (unless_read (variable_in a) (code c a s d)) (Does (instr.Not t (standing (variable_in a) d)) ∷ []) (Does (instr.Not d (standing (variable_in a) d)) ∷ []) refl
into_length c (LenExpr at a) s d t = same_end (unless_read (read a s) (code c a s d)) (Does (instr.Len t (standing (read a s) d)) ∷ []) (Does (instr.Len d (standing (read a s) d)) ∷ []) refl
into_length c (BinaryExpr at o a b) s d t =
    let l = standing (first_read o a b s) d in let two = second_read o b s in let r = standing two (right_register o d) in
    let right = unless_read two (code c b s (right_register o d)) in let skipped = released (before b s) s in let plain = plain_or_read two (is_plain b) in
    same_end (unless_read (first_read o a b s) (code c a (before b s) d)) (operate o t l r right skipped plain) (operate o d l r right skipped plain) (operate_length o t d l r right skipped plain)
into_length c (IsExpr at a ty) s d t = refl
into_length c (IndexExpr at a b) s d t =
    let l = standing (read a s) d in let r = standing (variable_in b) (suc d) in let index = unless_read (variable_in b) (code c b s (suc d)) in
    same_end (unless_read (read a s) (code c a (before b s) d)) (index ++ Does (instr.Get t l r) ∷ []) (index ++ Does (instr.Get d l r) ∷ []) (same_end index (Does (instr.Get t l r) ∷ []) (Does (instr.Get d l r) ∷ []) refl)
into_length c (FieldExpr at a name) s d t =
    let r = standing (read a s) d in let f = number_of name c.table.names in
    same_end (unless_read (read a s) (code c a s d)) (Does (instr.Field t r f) ∷ []) (Does (instr.Field d r f) ∷ []) refl
into_length c (ListExpr at items) s d t = refl
into_length c (RepeatExpr at a b) s d t = refl
into_length c (RecordExpr at fs) s d t = refl
into_length c (QuantExpr at all x a b body) s d t = refl
