-- An expression has few steps for each of its ticks.
use Rattle.std.proofs.Common.{◌≤◌, ◌+◌, ◌*◌, ℕ, suc, Bool, true, false, Option, Some, None, List, [], ◌∷◌, ◌++◌, length, arith, length-append}
use Rattle.wy_core.specs.CoreTree.{Expr, NullExpr, BoolExpr, IntExpr, VarExpr, CallExpr, NegExpr, NotExpr, LenExpr, BinaryExpr, IsExpr, IndexExpr, FieldExpr, ListExpr, RepeatExpr, RecordExpr, QuantExpr, Exprs, NoExprs, MoreExprs, Fields, NoFields, MoreFields}
use Rattle.wy_core.specs.Types.{Ty}
use Rattle.wy_core.specs.declared.expressions.Op.{Op}
use Rattle.wy_core.specs.declared.expressions.Op.TheVariants as op
use Rattle.wy_live.specs.Sets.{Variables}
use Rattle.wy_live.specs.Walks.{before, before_all, before_fields, turned}
use Rattle.wy_code.specs.declared.instructions.Comparison.TheVariants as comparison
use Rattle.wy_code.specs.declared.instructions.Instr.TheVariants as instr
use Rattle.wy_code.specs.declared.instructions.Scalar.TheVariants as scalar
use Rattle.wy_code_spec.specs.declared.tables.context.Context.{Context}
use Rattle.wy_code_spec.specs.declared.tables.targets.Target.{Target}
use Rattle.wy_code_spec.specs.declared.tables.targets.Target.TheVariants.{Declared, Prints, PrintsInt, Nothing}
use Rattle.wy_code_spec.specs.tables.Tables.{target, number_of}
use Rattle.wy_code.specs.declared.pieces.steps.Step.{Step}
use Rattle.wy_code.specs.declared.pieces.steps.Step.TheVariants.{Does, GoesOn}
use Rattle.wy_code.specs.pieces.Steps.{dropped, fork}
use Rattle.wy_code_spec.specs.compiled.TypeTests.{test}
use Rattle.wy_code_spec.specs.compiled.Operands.{variable_in, read, first_read, second_read, standing, unless_read, plain_or_read}
use Rattle.wy_code_spec.specs.compiled.Expressions.{lost, released, is_plain, release_unless, equal, operator, operate, right_register, call, count_of, is_test, tested_read, tested, negated, list, record_of, turn_end, said, ends, number_turns, quantify, code, codes, field_codes}
use Rattle.wy_code_spec.specs.ints.Ticks.{visits, ticks, all_ticks, field_ticks}
use Rattle.wy_code_spec.proofs.ints_lemmas.PieceLemmas.{clear_small, fork_small, turns_small}
use Rattle.wy_code_spec.proofs.ints_lemmas.TypeLemmas.{test_small}

pub released_small : (s t : Variables) → length (released s t) ≤ 1
released_small s t = clear_small (lost s t)

pub release_small : (plain : Bool) (r : ℕ) → length (release_unless plain r) ≤ 1
release_small true r = omega arith
release_small false r = omega arith

-- an operand that is read in its register has no steps
pub operand_small : (o : Option ℕ) (steps : List Step) (n : ℕ) → length steps + 2 ≤ n → length (unless_read o steps) + 2 ≤ n
operand_small None steps n h = h
operand_small (Some x) steps n h = omega arith

-- ---- operators

behind_small : (right tail : List Step) → length tail ≤ 2 → length (right ++ tail) ≤ length right + 3
behind_small right tail h = omega (arith, length-append right tail)

equal_small : (plain : Bool) (d l r : ℕ) → length (equal plain d l r) ≤ 2
equal_small plain d l r = let h : length (release_unless plain r) ≤ 1 = release_small plain r in omega arith

operate_small : (o : Op) (d l r : ℕ) (right skipped : List Step) (plain : Bool) → length skipped ≤ 1 → length (operate o d l r right skipped plain) ≤ length right + 3
operate_small op.Add d l r right skipped plain h = behind_small right (operator op.Add d l r plain) (omega arith)
operate_small op.Sub d l r right skipped plain h = behind_small right (operator op.Sub d l r plain) (omega arith)
operate_small op.Mul d l r right skipped plain h = behind_small right (operator op.Mul d l r plain) (omega arith)
operate_small op.Div d l r right skipped plain h = behind_small right (operator op.Div d l r plain) (omega arith)
operate_small op.Mod d l r right skipped plain h = behind_small right (operator op.Mod d l r plain) (omega arith)
operate_small op.Equal d l r right skipped plain h = behind_small right (operator op.Equal d l r plain) (equal_small plain d l r)
operate_small op.Less d l r right skipped plain h = behind_small right (operator op.Less d l r plain) (omega arith)
operate_small op.LessEqual d l r right skipped plain h = behind_small right (operator op.LessEqual d l r plain) (omega arith)
operate_small op.Greater d l r right skipped plain h = behind_small right (operator op.Greater d l r plain) (omega arith)
operate_small op.GreaterEqual d l r right skipped plain h = behind_small right (operator op.GreaterEqual d l r plain) (omega arith)
operate_small op.And d l r right skipped plain h = let k : length (fork d right []) ≤ length right + 0 + 2 = fork_small d right [] in omega (arith, length-append (fork d right []) skipped)
operate_small op.Or d l r right skipped plain h = let k : length (fork d skipped right) ≤ length skipped + length right + 2 = fork_small d skipped right in omega arith

call_small : (t : Target) (f d count : ℕ) → length (call t f d count) ≤ 2
call_small (Declared gives) f d count = omega arith
call_small Prints f d count = omega arith
call_small PrintsInt f d count = omega arith
call_small Nothing f d count = omega arith

is_small : (c : Context) (ty : Ty) (d : ℕ) → length (is_test c ty d) + 1 ≤ 16 * visits ty
is_small c ty d =
    let h : length (test c ty d (suc d) (suc (suc d))) + 4 ≤ 16 * visits ty = test_small c ty d (suc d) (suc (suc d)) in
    omega (arith, length-append (test c ty d (suc d) (suc (suc d))) (dropped d (suc (suc d)) ++ Does (instr.Move d (suc d)) ∷ []))

tested_small : (c : Context) (ty : Ty) (o : Option ℕ) (d : ℕ) → length (tested c ty o d) + 1 ≤ 16 * visits ty
tested_small c ty None d = is_small c ty d
tested_small c ty (Some x) d =
    let h : length (test c ty x (suc d) (suc (suc d))) + 4 ≤ 16 * visits ty = test_small c ty x (suc d) (suc (suc d)) in omega (arith, length-append (test c ty x (suc d) (suc (suc d))) (Does (instr.Move d (suc d)) ∷ []))

-- ---- quantifiers

turn_end_small : (all : Bool) (d : ℕ) (gone : List Step) → length (turn_end all d gone) ≤ 4
turn_end_small true d gone = omega arith
turn_end_small false d gone = omega arith

said_small : (d : ℕ) (truth : Bool) (gone : List Step) → length gone ≤ 1 → length (said d truth gone) ≤ 2
said_small d truth gone h = omega (arith, length-append gone (Does (instr.Const d (scalar.Bool truth)) ∷ []))

ends_small : (all : Bool) (d : ℕ) (gone other : List Step) (n : ℕ) → length gone ≤ 1 → length other ≤ 2 → length (gone ++ Does (instr.Const d (scalar.Bool all)) ∷ GoesOn n ∷ other) ≤ 5
ends_small all d gone other n h k = omega (arith, length-append gone (Does (instr.Const d (scalar.Bool all)) ∷ GoesOn n ∷ other))

turns_sum : (x d : ℕ) (rest : List Step) → length (number_turns x d rest) ≤ length rest + 4
turns_sum x d rest =
    let h : length (number_turns x d rest) ≤ 1 + suc (length rest) + 2 = turns_small (Does (instr.Compare (suc (suc d)) comparison.Less d (suc d)) ∷ []) (Does (instr.Share x d) ∷ rest) (suc (suc d)) in omega arith

quantify_small : (all : Bool) (x d : ℕ) (body gone : List Step) → length gone ≤ 1 → length (quantify all x d body gone) ≤ length body + 13
quantify_small all x d body gone h =
    let t : length (turn_end all d gone) ≤ 4 = turn_end_small all d gone in
    let e : length (ends all d gone) ≤ 5 = ends_small all d gone _ _ h (said_small d _ gone h) in
    let n : length (number_turns x d (body ++ turn_end all d gone)) ≤ length (body ++ turn_end all d gone) + 4 = turns_sum x d (body ++ turn_end all d gone) in
    omega (arith, length-append body (turn_end all d gone), length-append (number_turns x d (body ++ turn_end all d gone)) (ends all d gone))

-- ---- expressions

-- one part, and a few steps behind it
after_small : (xs ys : List Step) (t : ℕ) → length xs + 2 ≤ 16 * t → length ys ≤ 14 → length (xs ++ ys) + 2 ≤ 16 * suc t
after_small xs ys t h k = omega (arith, length-append xs ys)

-- two parts, the second with a few steps more
both_small : (xs ys : List Step) (n t u : ℕ) → length xs + 2 ≤ 16 * t → length ys ≤ n + 3 → n + 2 ≤ 16 * u → length (xs ++ ys) + 2 ≤ 16 * suc (t + u)
both_small xs ys n t u h k l = omega (arith, length-append xs ys)

-- parts in a row, and a few steps behind them
row_small : (xs ys : List Step) (t : ℕ) → length xs ≤ 16 * t → length ys ≤ 2 → length (xs ++ ys) + 2 ≤ 16 * suc t
row_small xs ys t h k = omega (arith, length-append xs ys)

more_small : (n t : ℕ) → n ≤ 16 * suc t → n ≤ 16 * suc (suc t)
more_small n t h = omega arith

is_sum : (xs ys : List Step) (t v : ℕ) → length xs + 2 ≤ 16 * t → length ys + 1 ≤ 16 * v → length (xs ++ ys) + 2 ≤ 16 * suc (t + v)
is_sum xs ys t v h k = omega (arith, length-append xs ys)

quant_sum : (xs ys zs : List Step) (n t u v : ℕ) → length xs + 2 ≤ 16 * t → length ys + 2 ≤ 16 * u → length zs ≤ n + 13 → n + 2 ≤ 16 * v → length (xs ++ (ys ++ zs)) + 2 ≤ 16 * suc (suc (t + (u + v)))
quant_sum xs ys zs n t u v h k l m = omega (arith, length-append xs (ys ++ zs), length-append ys zs)

cons_small : (xs ys : List Step) (t u : ℕ) → length xs + 2 ≤ 16 * t → length ys ≤ 16 * u → length (xs ++ ys) ≤ 16 * (t + u)
cons_small xs ys t u h k = omega (arith, length-append xs ys)

mutual
  pub expr_small : (c : Context) (e : Expr ℕ) (s : Variables) (d : ℕ) → length (code c e s d) + 2 ≤ 16 * ticks e
  expr_small c (NullExpr at) s d = omega arith
  expr_small c (BoolExpr at truth) s d = omega arith
  expr_small c (IntExpr at number) s d = omega arith
  expr_small c (VarExpr at x) s d = omega arith
  expr_small c (CallExpr at f args) s d =
      let xs = codes c args s d in let ys = call (target c.results f) f d (count_of args) in
      more_small (length (xs ++ ys) + 2) (all_ticks args) (row_small xs ys (all_ticks args) (codes_small c args s d) (call_small (target c.results f) f d (count_of args)))
  expr_small c (NegExpr at a) s d = after_small (unless_read (variable_in a) (code c a s d)) (negated d (standing (variable_in a) d)) (ticks a) (operand_small (variable_in a) (code c a s d) (16 * ticks a) (expr_small c a s d)) (omega arith)
  expr_small c (NotExpr at a) s d = after_small (unless_read (variable_in a) (code c a s d)) (Does (instr.Not d (standing (variable_in a) d)) ∷ []) (ticks a) (operand_small (variable_in a) (code c a s d) (16 * ticks a) (expr_small c a s d)) (omega arith)
  expr_small c (LenExpr at a) s d = after_small (unless_read (read a s) (code c a s d)) (Does (instr.Len d (standing (read a s) d)) ∷ []) (ticks a) (operand_small (read a s) (code c a s d) (16 * ticks a) (expr_small c a s d)) (omega arith)
  expr_small c (BinaryExpr at o a b) s d =
      let one = first_read o a b s in let two = second_read o b s in let xs = code c a (before b s) d in let right = code c b s (right_register o d) in let ys = unless_read two right in
      let l = standing one d in let r = standing two (right_register o d) in let plain = plain_or_read two (is_plain b) in
      both_small (unless_read one xs) (operate o d l r ys (released (before b s) s) plain) (length ys) (ticks a) (ticks b) (operand_small one xs (16 * ticks a) (expr_small c a (before b s) d))
      (operate_small o d l r ys (released (before b s) s) plain (released_small (before b s) s)) (operand_small two right (16 * ticks b) (expr_small c b s (right_register o d)))
  expr_small c (IsExpr at a ty) s d =
      let one = tested_read ty a s in
      is_sum (unless_read one (code c a s d)) (tested c ty one d) (ticks a) (visits ty) (operand_small one (code c a s d) (16 * ticks a) (expr_small c a s d)) (tested_small c ty one d)
  expr_small c (IndexExpr at a b) s d =
      let xs = code c a (before b s) d in let ys = unless_read (variable_in b) (code c b s (suc d)) in
      let get = Does (instr.Get d (standing (read a s) d) (standing (variable_in b) (suc d))) ∷ [] in
      both_small (unless_read (read a s) xs) (ys ++ get) (length ys) (ticks a) (ticks b) (operand_small (read a s) xs (16 * ticks a) (expr_small c a (before b s) d))
      (behind_small ys get (omega arith)) (operand_small (variable_in b) (code c b s (suc d)) (16 * ticks b) (expr_small c b s (suc d)))
  expr_small c (FieldExpr at a name) s d =
      after_small (unless_read (read a s) (code c a s d)) (Does (instr.Field d (standing (read a s) d) (number_of name c.table.names)) ∷ []) (ticks a) (operand_small (read a s) (code c a s d) (16 * ticks a) (expr_small c a s d)) (omega arith)
  expr_small c (ListExpr at items) s d = row_small (codes c items s d) (list (count_of items) d) (all_ticks items) (codes_small c items s d) (omega arith)
  expr_small c (RepeatExpr at a b) s d =
      let ys = code c b s (suc d) in
      both_small (code c a (before b s) d) (ys ++ Does (instr.Fill d d (suc d)) ∷ []) (length ys) (ticks a) (ticks b) (expr_small c a (before b s) d)
      (behind_small ys (Does (instr.Fill d d (suc d)) ∷ []) (omega arith)) (expr_small c b s (suc d))
  expr_small c (RecordExpr at fs) s d = row_small (field_codes c fs s d) (record_of c fs d) (field_ticks fs) (field_codes_small c fs s d) (omega arith)
  expr_small c (QuantExpr at all x a b body) s d =
      let t = turned x body s in let zs = code c body t (suc (suc d)) in
      quant_sum (code c a (before b t) d) (code c b t (suc d)) (quantify all x d zs (released t s)) (length zs) (ticks a) (ticks b) (ticks body) (expr_small c a (before b t) d) (expr_small c b t (suc d))
      (quantify_small all x d zs (released t s) (released_small t s)) (expr_small c body t (suc (suc d)))

  pub codes_small : (c : Context) (es : Exprs ℕ) (s : Variables) (d : ℕ) → length (codes c es s d) ≤ 16 * all_ticks es
  codes_small c NoExprs s d = omega arith
  codes_small c (MoreExprs e es) s d = cons_small (code c e (before_all es s) d) (codes c es s (suc d)) (ticks e) (all_ticks es) (expr_small c e (before_all es s) d) (codes_small c es s (suc d))

  field_codes_small : (c : Context) (fs : Fields ℕ) (s : Variables) (d : ℕ) → length (field_codes c fs s d) ≤ 16 * field_ticks fs
  field_codes_small c NoFields s d = omega arith
  field_codes_small c (MoreFields name e fs) s d =
      cons_small (code c e (before_fields fs s) d) (field_codes c fs s (suc d)) (ticks e) (field_ticks fs) (expr_small c e (before_fields fs s) d) (field_codes_small c fs s (suc d))
