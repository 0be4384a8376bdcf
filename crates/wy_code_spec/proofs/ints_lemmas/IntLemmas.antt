-- Each number that the code of a type or an expression puts into a register is an `int`.
use Rattle.std.proofs.Common.{ℕ, suc, List, [], ◌∷◌, ◌++◌, length, Bool, true, false, not, cond, Option, Some, None, pos, arith, rules}
use Rattle.std.proofs.lemmas.Int.{ints}
use Rattle.wy_core.specs.Types.{Ty, NullTy, BoolTy, IntTy, AnyTy, VoidTy, RecordTy, ArrayTy, UnionTy, InterTy, NotTy, NamedTy, NormalTy, FieldTys, NoFieldTys, MoreFieldTys}
use Rattle.wy_core.specs.CoreTree.{Expr, NullExpr, BoolExpr, IntExpr, VarExpr, CallExpr, NegExpr, NotExpr, LenExpr, BinaryExpr, IsExpr, IndexExpr, FieldExpr, ListExpr, RepeatExpr, RecordExpr, QuantExpr, Exprs, NoExprs, MoreExprs, Fields, NoFields, MoreFields}
use Rattle.wy_core.specs.declared.expressions.Op.{Op}
use Rattle.wy_core.specs.declared.expressions.Op.TheVariants as op
use Rattle.wy_live.specs.Sets.{Variables, has}
use Rattle.wy_live.specs.Walks.{before, before_all, before_fields, turned}
use Rattle.wy_code.specs.declared.instructions.Instr.TheVariants as instr
use Rattle.wy_code.specs.declared.instructions.Comparison.TheVariants as comparison
use Rattle.wy_code.specs.declared.instructions.Scalar.TheVariants as scalar
use Rattle.wy_code.specs.declared.pieces.steps.Step.{Step}
use Rattle.wy_code.specs.declared.pieces.steps.Step.TheVariants.{Does, GoesOn, GoesBack, GoesOnUnless}
use Rattle.wy_code.specs.pieces.Steps.{clear, dropped, fork, turns, where_true}
use Rattle.wy_code_spec.specs.declared.tables.context.Context.{Context}
use Rattle.wy_code_spec.specs.declared.tables.targets.Target.{Target}
use Rattle.wy_code_spec.specs.declared.tables.targets.Target.TheVariants.{Declared, Prints, PrintsInt, Nothing}
use Rattle.wy_code_spec.specs.tables.Tables.{target}
use Rattle.wy_core.specs.formed.Literals.{IsInt, IntsExpr, IntsExprs, IntsFields}
use Rattle.wy_code_spec.specs.compiled.TypeTests as test
use Rattle.wy_code_spec.specs.compiled.Operands.{variable_in, read, first_read, second_read, standing, unless_read, plain_or_read}
use Rattle.wy_code_spec.specs.compiled.Expressions as spec
use Rattle.wy_code_spec.specs.compiled.Straight.{into}
use Rattle.wy_code_spec.specs.ints.Loadable.{PutsInt}

-- the two numbers that code has of its own
pub zero-int : IsInt (pos 0)
zero-int = record { least = grind (arith, ints, rules); greatest = grind (arith, ints, rules) }

pub one-int : IsInt (pos 1)
one-int = record { least = grind (arith, ints, rules); greatest = grind (arith, ints, rules) }

-- each instruction of the code
abbrev pub AllPut : List Step → Type 0
AllPut [] = Unit {0}
AllPut (Does i ∷ steps) = PutsInt i × AllPut steps
AllPut (GoesOn n ∷ steps) = AllPut steps
AllPut (GoesBack n ∷ steps) = AllPut steps
AllPut (GoesOnUnless r n ∷ steps) = AllPut steps

pub ints_append : (xs ys : List Step) → AllPut xs → AllPut ys → AllPut (xs ++ ys)
ints_append [] ys a b = b
ints_append (Does i ∷ xs) ys a b = (a.0, ints_append xs ys a.1 b)
ints_append (GoesOn n ∷ xs) ys a b = ints_append xs ys a b
ints_append (GoesBack n ∷ xs) ys a b = ints_append xs ys a b
ints_append (GoesOnUnless r n ∷ xs) ys a b = ints_append xs ys a b

pub clear_ints : (rs : List ℕ) → AllPut (clear rs)
clear_ints [] = tt
clear_ints (r ∷ rs) = (tt, tt)

pub dropped_ints : (r f : ℕ) → AllPut (dropped r f)
dropped_ints r f = (tt, (tt, tt))

pub where_ints : (r : ℕ) (first : List Step) → AllPut first → AllPut (where_true r first)
where_ints r [] a = tt
where_ints r (s ∷ first) a = a

pub fork_ints : (r : ℕ) (first second : List Step) → AllPut first → AllPut second → AllPut (fork r first second)
fork_ints r first [] a b = where_ints r first a
fork_ints r first (s ∷ second) a b = ints_append first (GoesOn (length (s ∷ second)) ∷ s ∷ second) a b

pub turns_ints : (test : List Step) (r : ℕ) (body : List Step) → AllPut test → AllPut body → AllPut (turns test r body)
turns_ints test r body a b = ints_append test _ a (ints_append body _ b tt)

-- ---- tests of types

item_turns_ints : (v r f : ℕ) (rest : List Step) → AllPut rest → AllPut (test.item_turns v r f rest)
item_turns_ints v r f rest a = turns_ints (Does (instr.Compare r comparison.Less (suc f) f) ∷ []) r (Does (instr.Get (suc (suc f)) v (suc f)) ∷ rest) (tt, tt) (tt, a)

mutual
  pub test_ints : (c : Context) (t : Ty) (v r f : ℕ) → AllPut (test.test c t v r f)
  test_ints c NullTy v r f = (tt, tt)
  test_ints c BoolTy v r f = (tt, tt)
  test_ints c IntTy v r f = (tt, tt)
  test_ints c AnyTy v r f = (tt, tt)
  test_ints c VoidTy v r f = (tt, tt)
  test_ints c (RecordTy fs) v r f = (tt, fork_ints r (test.fields_test c fs v r f) [] (fields_ints c fs v r f) tt)
  test_ints c (ArrayTy t) v r f =
      let one = test.test c t (suc (suc f)) r (suc (suc (suc f))) in
      let turn : AllPut (one ++ test.item_end r f) = ints_append one (test.item_end r f) (test_ints c t (suc (suc f)) r (suc (suc (suc f)))) (tt, (tt, (one-int, (tt, tt)))) in
      let items : AllPut (test.items_test v r f one) = ints_append (test.item_turns v r f (one ++ test.item_end r f)) (test.yes r) (item_turns_ints v r f (one ++ test.item_end r f) turn) (tt, tt) in
      (tt, fork_ints r (Does (instr.Len f v) ∷ Does (instr.Const (suc f) (scalar.Int (pos 0))) ∷ test.items_test v r f one) [] (tt, (zero-int, items)) tt)
  test_ints c (UnionTy s t) v r f = ints_append (test.test c s v r f) (fork r [] (test.test c t v r f)) (test_ints c s v r f) (fork_ints r [] (test.test c t v r f) tt (test_ints c t v r f))
  test_ints c (InterTy s t) v r f = ints_append (test.test c s v r f) (fork r (test.test c t v r f) []) (test_ints c s v r f) (fork_ints r (test.test c t v r f) [] (test_ints c t v r f) tt)
  test_ints c (NotTy t) v r f = ints_append (test.test c t v r f) _ (test_ints c t v r f) (tt, tt)
  test_ints c (NamedTy n) v r f = (tt, (tt, tt))
  test_ints c (NormalTy union) v r f = (tt, tt)

  fields_ints : (c : Context) (fs : FieldTys) (v r f : ℕ) → AllPut (test.fields_test c fs v r f)
  fields_ints c NoFieldTys v r f = tt
  fields_ints c (MoreFieldTys name t fs) v r f = (
    tt,
    ints_append (test.test c t f r (suc f)) (test.field_end r f (test.fields_test c fs v r f)) (test_ints c t f r (suc f))
        (ints_append (dropped f (suc f)) (fork r (test.fields_test c fs v r f) []) (dropped_ints f (suc f)) (fork_ints r (test.fields_test c fs v r f) [] (fields_ints c fs v r f) tt)),
  )

-- ---- pieces of expressions

pub released_ints : (s u : Variables) → AllPut (spec.released s u)
released_ints s u = clear_ints (spec.lost s u)

pub unless_ints : (plain : Bool) (r : ℕ) → AllPut (spec.release_unless plain r)
unless_ints true r = tt
unless_ints false r = (tt, tt)

-- where an operand is read in its register it has no code
pub operand_ints : (o : Option ℕ) (steps : List Step) → AllPut steps → AllPut (unless_read o steps)
operand_ints None steps a = a
operand_ints (Some x) steps a = tt

operator_ints : (o : Op) (d l r : ℕ) (plain : Bool) → AllPut (spec.operator o d l r plain)
operator_ints op.Add d l r plain = (tt, tt)
operator_ints op.Sub d l r plain = (tt, tt)
operator_ints op.Mul d l r plain = (tt, tt)
operator_ints op.Div d l r plain = (tt, tt)
operator_ints op.Mod d l r plain = (tt, tt)
operator_ints op.Equal d l r plain = (tt, unless_ints plain r)
operator_ints op.Less d l r plain = (tt, tt)
operator_ints op.LessEqual d l r plain = (tt, tt)
operator_ints op.Greater d l r plain = (tt, tt)
operator_ints op.GreaterEqual d l r plain = (tt, tt)
operator_ints op.And d l r plain = tt
operator_ints op.Or d l r plain = tt

operate_ints : (o : Op) (d l r : ℕ) (right skipped : List Step) (plain : Bool) → AllPut right → AllPut skipped → AllPut (spec.operate o d l r right skipped plain)
operate_ints op.Add d l r right skipped plain h k = ints_append right _ h (operator_ints op.Add d l r plain)
operate_ints op.Sub d l r right skipped plain h k = ints_append right _ h (operator_ints op.Sub d l r plain)
operate_ints op.Mul d l r right skipped plain h k = ints_append right _ h (operator_ints op.Mul d l r plain)
operate_ints op.Div d l r right skipped plain h k = ints_append right _ h (operator_ints op.Div d l r plain)
operate_ints op.Mod d l r right skipped plain h k = ints_append right _ h (operator_ints op.Mod d l r plain)
operate_ints op.Equal d l r right skipped plain h k = ints_append right _ h (operator_ints op.Equal d l r plain)
operate_ints op.Less d l r right skipped plain h k = ints_append right _ h (operator_ints op.Less d l r plain)
operate_ints op.LessEqual d l r right skipped plain h k = ints_append right _ h (operator_ints op.LessEqual d l r plain)
operate_ints op.Greater d l r right skipped plain h k = ints_append right _ h (operator_ints op.Greater d l r plain)
operate_ints op.GreaterEqual d l r right skipped plain h k = ints_append right _ h (operator_ints op.GreaterEqual d l r plain)
operate_ints op.And d l r right skipped plain h k = ints_append (fork d right []) skipped (fork_ints d right [] h tt) k
operate_ints op.Or d l r right skipped plain h k = fork_ints d skipped right k h

-- a test, where it leaves the value in its register or releases it
pub tested_ints : (c : Context) (ty : Ty) (o : Option ℕ) (d : ℕ) → AllPut (spec.tested c ty o d)
tested_ints c ty None d = ints_append (test.test c ty d (suc d) (suc (suc d))) _ (test_ints c ty d (suc d) (suc (suc d))) (tt, (tt, (tt, tt)))
tested_ints c ty (Some x) d = ints_append (test.test c ty x (suc d) (suc (suc d))) _ (test_ints c ty x (suc d) (suc (suc d))) (tt, tt)

call_ints : (to : Target) (f d count : ℕ) → AllPut (spec.call to f d count)
call_ints (Declared gives) f d count = (tt, tt)
call_ints Prints f d count = (tt, (tt, tt))
call_ints PrintsInt f d count = (tt, (tt, tt))
call_ints Nothing f d count = (tt, tt)

use_ints : (shared : Bool) (d x : ℕ) → AllPut (Does (cond shared (instr.Share d x) (instr.Move d x)) ∷ [])
use_ints true d x = (tt, tt)
use_ints false d x = (tt, tt)

said_ints : (d : ℕ) (truth : Bool) (gone : List Step) → AllPut gone → AllPut (spec.said d truth gone)
said_ints d truth gone h = ints_append gone _ h (tt, tt)

turn_end_ints : (all : Bool) (d : ℕ) (gone : List Step) → AllPut (spec.turn_end all d gone)
turn_end_ints true d gone = (one-int, (tt, tt))
turn_end_ints false d gone = (tt, (one-int, (tt, tt)))

number_turns_ints : (x d : ℕ) (rest : List Step) → AllPut rest → AllPut (spec.number_turns x d rest)
number_turns_ints x d rest a =
    turns_ints (Does (instr.Compare (suc (suc d)) comparison.Less d (suc d)) ∷ []) (suc (suc d)) (Does (instr.Share x d) ∷ rest) (tt, tt) (tt, a)

quantify_ints : (all : Bool) (x d : ℕ) (body gone : List Step) → AllPut body → AllPut gone → AllPut (spec.quantify all x d body gone)
quantify_ints all x d body gone h k =
    ints_append (spec.number_turns x d (body ++ spec.turn_end all d gone)) (spec.ends all d gone)
    (number_turns_ints x d (body ++ spec.turn_end all d gone) (ints_append body (spec.turn_end all d gone) h (turn_end_ints all d gone)))
    (ints_append gone _ k (tt, said_ints d (not all) gone k))

-- ---- expressions

mutual
  pub code_ints : (c : Context) (e : Expr ℕ) (s : Variables) (d : ℕ) → IntsExpr e → AllPut (spec.code c e s d)
  code_ints c (NullExpr at) s d h = (tt, tt)
  code_ints c (BoolExpr at truth) s d h = (tt, tt)
  code_ints c (IntExpr at number) s d h = (h, tt)
  code_ints c (VarExpr at x) s d h = use_ints (has s x) d x
  code_ints c (CallExpr at f args) s d h = ints_append (spec.codes c args s d) _ (codes_ints c args s d h) (call_ints (target c.results f) f d (spec.count_of args))
  code_ints c (NegExpr at a) s d h = ints_append (unless_read (variable_in a) (spec.code c a s d)) _ (operand_ints (variable_in a) (spec.code c a s d) (code_ints c a s d h)) (zero-int, (tt, tt))
  code_ints c (NotExpr at a) s d h = ints_append (unless_read (variable_in a) (spec.code c a s d)) _ (operand_ints (variable_in a) (spec.code c a s d) (code_ints c a s d h)) (tt, tt)
  code_ints c (LenExpr at a) s d h = ints_append (unless_read (read a s) (spec.code c a s d)) _ (operand_ints (read a s) (spec.code c a s d) (code_ints c a s d h)) (tt, tt)
  code_ints c (BinaryExpr at o x y) s d h =
      let one = first_read o x y s in let two = second_read o y s in let right = spec.code c y s (spec.right_register o d) in
      ints_append (unless_read one (spec.code c x (before y s) d)) _ (operand_ints one (spec.code c x (before y s) d) (code_ints c x (before y s) d h.0))
      (operate_ints o d (standing one d) (standing two (spec.right_register o d)) (unless_read two right) (spec.released (before y s) s) (plain_or_read two (spec.is_plain y))
      (operand_ints two right (code_ints c y s (spec.right_register o d) h.1)) (released_ints (before y s) s))
  code_ints c (IsExpr at a ty) s d h =
      let one = spec.tested_read ty a s in
      ints_append (unless_read one (spec.code c a s d)) (spec.tested c ty one d) (operand_ints one (spec.code c a s d) (code_ints c a s d h)) (tested_ints c ty one d)
  code_ints c (IndexExpr at x y) s d h =
      ints_append (unless_read (read x s) (spec.code c x (before y s) d)) _ (operand_ints (read x s) (spec.code c x (before y s) d) (code_ints c x (before y s) d h.0))
      (ints_append (unless_read (variable_in y) (spec.code c y s (suc d))) _ (operand_ints (variable_in y) (spec.code c y s (suc d)) (code_ints c y s (suc d) h.1)) (tt, tt))
  code_ints c (FieldExpr at a name) s d h = ints_append (unless_read (read a s) (spec.code c a s d)) _ (operand_ints (read a s) (spec.code c a s d) (code_ints c a s d h)) (tt, tt)
  code_ints c (ListExpr at items) s d h = ints_append (spec.codes c items s d) _ (codes_ints c items s d h) (tt, tt)
  code_ints c (RepeatExpr at x y) s d h = ints_append (spec.code c x (before y s) d) _ (code_ints c x (before y s) d h.0) (ints_append (spec.code c y s (suc d)) _ (code_ints c y s (suc d) h.1) (tt, tt))
  code_ints c (RecordExpr at fs) s d h = ints_append (spec.field_codes c fs s d) _ (field_codes_ints c fs s d h) (tt, tt)
  code_ints c (QuantExpr at all x from to body) s d h =
      ints_append (spec.code c from (before to (turned x body s)) d) _ (code_ints c from (before to (turned x body s)) d h.0)
      (ints_append (spec.code c to (turned x body s) (suc d)) _ (code_ints c to (turned x body s) (suc d) h.1)
      (quantify_ints all x d (spec.code c body (turned x body s) (suc (suc d))) (spec.released (turned x body s) s) (code_ints c body (turned x body s) (suc (suc d)) h.2) (released_ints (turned x body s) s)))

  pub codes_ints : (c : Context) (es : Exprs ℕ) (s : Variables) (d : ℕ) → IntsExprs es → AllPut (spec.codes c es s d)
  codes_ints c NoExprs s d h = tt
  codes_ints c (MoreExprs e es) s d h = ints_append (spec.code c e (before_all es s) d) _ (code_ints c e (before_all es s) d h.0) (codes_ints c es s (suc d) h.1)

  field_codes_ints : (c : Context) (fs : Fields ℕ) (s : Variables) (d : ℕ) → IntsFields fs → AllPut (spec.field_codes c fs s d)
  field_codes_ints c NoFields s d h = tt
  field_codes_ints c (MoreFields name e fs) s d h = ints_append (spec.code c e (before_fields fs s) d) _ (code_ints c e (before_fields fs s) d h.0) (field_codes_ints c fs s (suc d) h.1)

-- where the value comes straight into a register
pub into_ints : (c : Context) (e : Expr ℕ) (s : Variables) (d t : ℕ) → IntsExpr e → AllPut (into c e s d t)
into_ints c (NullExpr at) s d t h = (tt, tt)
into_ints c (BoolExpr at truth) s d t h = (tt, tt)
into_ints c (IntExpr at number) s d t h = (h, tt)
into_ints c (VarExpr at x) s d t h = use_ints (has s x) t x
into_ints c (CallExpr at f args) s d t h = code_ints c (CallExpr at f args) s d h
into_ints c (NegExpr at a) s d t h = ints_append (unless_read (variable_in a) (spec.code c a s d)) _ (operand_ints (variable_in a) (spec.code c a s d) (code_ints c a s d h)) (zero-int, (tt, tt))
into_ints c (NotExpr at a) s d t h = ints_append (unless_read (variable_in a) (spec.code c a s d)) _ (operand_ints (variable_in a) (spec.code c a s d) (code_ints c a s d h)) (tt, tt)
into_ints c (LenExpr at a) s d t h = ints_append (unless_read (read a s) (spec.code c a s d)) _ (operand_ints (read a s) (spec.code c a s d) (code_ints c a s d h)) (tt, tt)
into_ints c (BinaryExpr at o x y) s d t h =
    let one = first_read o x y s in let two = second_read o y s in let right = spec.code c y s (spec.right_register o d) in
    ints_append (unless_read one (spec.code c x (before y s) d)) _ (operand_ints one (spec.code c x (before y s) d) (code_ints c x (before y s) d h.0))
    (operate_ints o t (standing one d) (standing two (spec.right_register o d)) (unless_read two right) (spec.released (before y s) s) (plain_or_read two (spec.is_plain y))
    (operand_ints two right (code_ints c y s (spec.right_register o d) h.1)) (released_ints (before y s) s))
into_ints c (IsExpr at a ty) s d t h = code_ints c (IsExpr at a ty) s d h
into_ints c (IndexExpr at x y) s d t h =
    ints_append (unless_read (read x s) (spec.code c x (before y s) d)) _ (operand_ints (read x s) (spec.code c x (before y s) d) (code_ints c x (before y s) d h.0))
    (ints_append (unless_read (variable_in y) (spec.code c y s (suc d))) _ (operand_ints (variable_in y) (spec.code c y s (suc d)) (code_ints c y s (suc d) h.1)) (tt, tt))
into_ints c (FieldExpr at a name) s d t h = ints_append (unless_read (read a s) (spec.code c a s d)) _ (operand_ints (read a s) (spec.code c a s d) (code_ints c a s d h)) (tt, tt)
into_ints c (ListExpr at items) s d t h = code_ints c (ListExpr at items) s d h
into_ints c (RepeatExpr at x y) s d t h = code_ints c (RepeatExpr at x y) s d h
into_ints c (RecordExpr at fs) s d t h = code_ints c (RecordExpr at fs) s d h
into_ints c (QuantExpr at all x from to body) s d t h = code_ints c (QuantExpr at all x from to body) s d h
