-- Each instruction names shapes and names of fields that stand in the table.
use Rattle.std.proofs.Common.{ℕ, suc, List, [], ◌∷◌, ◌++◌, length, Bool, true, false, not, cond, Option, Some, None, pos}
use Rattle.wy_lemmas.proofs.Lists.{AreAllBelow as Below}
use Rattle.wy_value.specs.declared.shapes.Shapes.{Shapes}
use Rattle.wy_core.specs.Types.{Ty, NullTy, BoolTy, IntTy, AnyTy, VoidTy, RecordTy, ArrayTy, UnionTy, InterTy, NotTy, NamedTy, NormalTy, FieldTys, NoFieldTys, MoreFieldTys}
use Rattle.wy_core.specs.CoreTree.{Expr, NullExpr, BoolExpr, IntExpr, VarExpr, CallExpr, NegExpr, NotExpr, LenExpr, BinaryExpr, IsExpr, IndexExpr, FieldExpr, ListExpr, RepeatExpr, RecordExpr, QuantExpr, Exprs, NoExprs, MoreExprs, Fields, NoFields, MoreFields}
use Rattle.wy_core.specs.declared.expressions.Op.{Op}
use Rattle.wy_core.specs.declared.expressions.Op.TheVariants as op
use Rattle.wy_live.specs.Sets.{Variables, has}
use Rattle.wy_live.specs.Walks.{before, before_all, before_fields, turned}
use Rattle.wy_code.specs.declared.instructions.Instr.{Instr}
use Rattle.wy_code.specs.declared.instructions.Instr.TheVariants as instr
use Rattle.wy_code.specs.declared.instructions.Comparison.TheVariants as comparison
use Rattle.wy_code.specs.declared.instructions.Scalar.TheVariants as scalar
use Rattle.wy_code.specs.declared.pieces.steps.Step.{Step}
use Rattle.wy_code.specs.declared.pieces.steps.Step.TheVariants.{Does, GoesOn, GoesBack, GoesOnUnless}
use Rattle.wy_code.specs.pieces.Steps.{clear, dropped, fork, turns, where_true}
use Rattle.wy_code_spec.specs.declared.tables.context.Context.{Context}
use Rattle.wy_code_spec.specs.declared.tables.targets.Target.{Target}
use Rattle.wy_code_spec.specs.declared.tables.targets.Target.TheVariants.{Declared, Prints, PrintsInt, Nothing}
use Rattle.wy_code_spec.specs.tables.Tables.{target, ty_names_in}
use Rattle.wy_code_spec.specs.compiled.TypeTests as test
use Rattle.wy_code_spec.specs.compiled.Operands.{variable_in, read, first_read, second_read, standing, unless_read, plain_or_read}
use Rattle.wy_code_spec.specs.compiled.Expressions as spec
use Rattle.wy_code_spec.specs.compiled.Straight.{into}
use Rattle.wy_code_spec.specs.compiled.Ranges.{shapes_in, fields_in}
use Rattle.wy_code_spec.proofs.compiled_lemmas.TableLemmas.{Listed, StandsTy, StandFieldTys, StandsExpr, StandExprs, StandFields, number_within}

abbrev pub Names : Shapes → Instr → Type 0
Names t i = Below (length t.lists) (shapes_in i) × Below (length t.names) (fields_in i)

-- each instruction of the code
abbrev pub AllName : Shapes → List Step → Type 0
AllName t [] = Unit {0}
AllName t (Does i ∷ steps) = Names t i × AllName t steps
AllName t (GoesOn n ∷ steps) = AllName t steps
AllName t (GoesBack n ∷ steps) = AllName t steps
AllName t (GoesOnUnless r n ∷ steps) = AllName t steps

pub names_append : (t : Shapes) (xs ys : List Step) → AllName t xs → AllName t ys → AllName t (xs ++ ys)
names_append t [] ys a b = b
names_append t (Does i ∷ xs) ys a b = (a.0, names_append t xs ys a.1 b)
names_append t (GoesOn n ∷ xs) ys a b = names_append t xs ys a b
names_append t (GoesBack n ∷ xs) ys a b = names_append t xs ys a b
names_append t (GoesOnUnless r n ∷ xs) ys a b = names_append t xs ys a b

pub clear_names : (t : Shapes) (rs : List ℕ) → AllName t (clear rs)
clear_names t [] = tt
clear_names t (r ∷ rs) = ((tt, tt), tt)

pub dropped_names : (t : Shapes) (r f : ℕ) → AllName t (dropped r f)
dropped_names t r f = ((tt, tt), ((tt, tt), tt))

pub where_names : (t : Shapes) (r : ℕ) (first : List Step) → AllName t first → AllName t (where_true r first)
where_names t r [] a = tt
where_names t r (s ∷ first) a = a

pub fork_names : (t : Shapes) (r : ℕ) (first second : List Step) → AllName t first → AllName t second → AllName t (fork r first second)
fork_names t r first [] a b = where_names t r first a
fork_names t r first (s ∷ second) a b = names_append t first (GoesOn (length (s ∷ second)) ∷ s ∷ second) a b

pub turns_names : (t : Shapes) (test : List Step) (r : ℕ) (body : List Step) → AllName t test → AllName t body → AllName t (turns test r body)
turns_names t test r body a b = names_append t test _ a (names_append t body _ b tt)

-- ---- tests of types, where the table is that of the context

item_turns_names : (t : Shapes) (v r f : ℕ) (rest : List Step) → AllName t rest → AllName t (test.item_turns v r f rest)
item_turns_names t v r f rest a = turns_names t (Does (instr.Compare r comparison.Less (suc f) f) ∷ []) r (Does (instr.Get (suc (suc f)) v (suc f)) ∷ rest) ((tt, tt), tt) ((tt, tt), a)

mutual
  pub test_names : (c : Context) (t : Ty) (v r f : ℕ) → StandsTy c.table t → AllName c.table (test.test c t v r f)
  test_names c NullTy v r f h = ((tt, tt), tt)
  test_names c BoolTy v r f h = ((tt, tt), tt)
  test_names c IntTy v r f h = ((tt, tt), tt)
  test_names c AnyTy v r f h = ((tt, tt), tt)
  test_names c VoidTy v r f h = ((tt, tt), tt)
  test_names c (RecordTy fs) v r f h = (((number_within _ c.table.lists h.0.1, tt), tt), fork_names c.table r (test.fields_test c fs v r f) [] (fields_names c fs v r f h.0.0 h.1) tt)
  test_names c (ArrayTy t) v r f h =
      let one = test.test c t (suc (suc f)) r (suc (suc (suc f))) in
      let turn : AllName c.table (one ++ test.item_end r f) = names_append c.table one (test.item_end r f) (test_names c t (suc (suc f)) r (suc (suc (suc f))) h) ((tt, tt), ((tt, tt), ((tt, tt), ((tt, tt), tt)))) in
      let items : AllName c.table (test.items_test v r f one) = names_append c.table (test.item_turns v r f (one ++ test.item_end r f)) (test.yes r) (item_turns_names c.table v r f (one ++ test.item_end r f) turn) ((tt, tt), tt) in
      ((tt, tt), fork_names c.table r (Does (instr.Len f v) ∷ Does (instr.Const (suc f) (scalar.Int (pos 0))) ∷ test.items_test v r f one) [] ((tt, tt), ((tt, tt), items)) tt)
  test_names c (UnionTy s t) v r f h = names_append c.table (test.test c s v r f) (fork r [] (test.test c t v r f)) (test_names c s v r f h.0) (fork_names c.table r [] (test.test c t v r f) tt (test_names c t v r f h.1))
  test_names c (InterTy s t) v r f h = names_append c.table (test.test c s v r f) (fork r (test.test c t v r f) []) (test_names c s v r f h.0) (fork_names c.table r (test.test c t v r f) [] (test_names c t v r f h.1) tt)
  test_names c (NotTy t) v r f h = names_append c.table (test.test c t v r f) _ (test_names c t v r f h) ((tt, tt), tt)
  test_names c (NamedTy n) v r f h = ((tt, tt), ((tt, tt), tt))
  test_names c (NormalTy union) v r f h = ((tt, tt), tt)

  fields_names : (c : Context) (fs : FieldTys) (v r f : ℕ) → Listed c.table.names (ty_names_in fs) → StandFieldTys c.table fs → AllName c.table (test.fields_test c fs v r f)
  fields_names c NoFieldTys v r f l h = tt
  fields_names c (MoreFieldTys name t fs) v r f l h = (
    (tt, (number_within name c.table.names l.0, tt)),
    names_append c.table (test.test c t f r (suc f)) (test.field_end r f (test.fields_test c fs v r f)) (test_names c t f r (suc f) h.0)
        (names_append c.table (dropped f (suc f)) (fork r (test.fields_test c fs v r f) []) (dropped_names c.table f (suc f)) (fork_names c.table r (test.fields_test c fs v r f) [] (fields_names c fs v r f l.1 h.1) tt)),
  )

-- ---- pieces of expressions

pub released_names : (t : Shapes) (s u : Variables) → AllName t (spec.released s u)
released_names t s u = clear_names t (spec.lost s u)

pub unless_names : (t : Shapes) (plain : Bool) (r : ℕ) → AllName t (spec.release_unless plain r)
unless_names t true r = tt
unless_names t false r = ((tt, tt), tt)

-- where an operand is read in its register it has no code
pub operand_names : (t : Shapes) (o : Option ℕ) (steps : List Step) → AllName t steps → AllName t (unless_read o steps)
operand_names t None steps a = a
operand_names t (Some x) steps a = tt

operator_names : (t : Shapes) (o : Op) (d l r : ℕ) (plain : Bool) → AllName t (spec.operator o d l r plain)
operator_names t op.Add d l r plain = ((tt, tt), tt)
operator_names t op.Sub d l r plain = ((tt, tt), tt)
operator_names t op.Mul d l r plain = ((tt, tt), tt)
operator_names t op.Div d l r plain = ((tt, tt), tt)
operator_names t op.Mod d l r plain = ((tt, tt), tt)
operator_names t op.Equal d l r plain = ((tt, tt), unless_names t plain r)
operator_names t op.Less d l r plain = ((tt, tt), tt)
operator_names t op.LessEqual d l r plain = ((tt, tt), tt)
operator_names t op.Greater d l r plain = ((tt, tt), tt)
operator_names t op.GreaterEqual d l r plain = ((tt, tt), tt)
operator_names t op.And d l r plain = tt
operator_names t op.Or d l r plain = tt

operate_names : (t : Shapes) (o : Op) (d l r : ℕ) (right skipped : List Step) (plain : Bool) → AllName t right → AllName t skipped → AllName t (spec.operate o d l r right skipped plain)
operate_names t op.Add d l r right skipped plain h k = names_append t right _ h (operator_names t op.Add d l r plain)
operate_names t op.Sub d l r right skipped plain h k = names_append t right _ h (operator_names t op.Sub d l r plain)
operate_names t op.Mul d l r right skipped plain h k = names_append t right _ h (operator_names t op.Mul d l r plain)
operate_names t op.Div d l r right skipped plain h k = names_append t right _ h (operator_names t op.Div d l r plain)
operate_names t op.Mod d l r right skipped plain h k = names_append t right _ h (operator_names t op.Mod d l r plain)
operate_names t op.Equal d l r right skipped plain h k = names_append t right _ h (operator_names t op.Equal d l r plain)
operate_names t op.Less d l r right skipped plain h k = names_append t right _ h (operator_names t op.Less d l r plain)
operate_names t op.LessEqual d l r right skipped plain h k = names_append t right _ h (operator_names t op.LessEqual d l r plain)
operate_names t op.Greater d l r right skipped plain h k = names_append t right _ h (operator_names t op.Greater d l r plain)
operate_names t op.GreaterEqual d l r right skipped plain h k = names_append t right _ h (operator_names t op.GreaterEqual d l r plain)
operate_names t op.And d l r right skipped plain h k = names_append t (fork d right []) skipped (fork_names t d right [] h tt) k
operate_names t op.Or d l r right skipped plain h k = fork_names t d skipped right k h

-- a test, where it leaves the value in its register or releases it
pub tested_names : (c : Context) (ty : Ty) (o : Option ℕ) (d : ℕ) → StandsTy c.table ty → AllName c.table (spec.tested c ty o d)
tested_names c ty None d h = names_append c.table (test.test c ty d (suc d) (suc (suc d))) _ (test_names c ty d (suc d) (suc (suc d)) h) ((tt, tt), ((tt, tt), ((tt, tt), tt)))
tested_names c ty (Some x) d h = names_append c.table (test.test c ty x (suc d) (suc (suc d))) _ (test_names c ty x (suc d) (suc (suc d)) h) ((tt, tt), tt)

call_names : (t : Shapes) (to : Target) (f d count : ℕ) → AllName t (spec.call to f d count)
call_names t (Declared gives) f d count = ((tt, tt), tt)
call_names t Prints f d count = ((tt, tt), ((tt, tt), tt))
call_names t PrintsInt f d count = ((tt, tt), ((tt, tt), tt))
call_names t Nothing f d count = ((tt, tt), tt)

use_names : (t : Shapes) (shared : Bool) (d x : ℕ) → AllName t (Does (cond shared (instr.Share d x) (instr.Move d x)) ∷ [])
use_names t true d x = ((tt, tt), tt)
use_names t false d x = ((tt, tt), tt)

said_names : (t : Shapes) (d : ℕ) (truth : Bool) (gone : List Step) → AllName t gone → AllName t (spec.said d truth gone)
said_names t d truth gone h = names_append t gone _ h ((tt, tt), tt)

turn_end_names : (t : Shapes) (all : Bool) (d : ℕ) (gone : List Step) → AllName t (spec.turn_end all d gone)
turn_end_names t true d gone = ((tt, tt), ((tt, tt), tt))
turn_end_names t false d gone = ((tt, tt), ((tt, tt), ((tt, tt), tt)))

number_turns_names : (t : Shapes) (x d : ℕ) (rest : List Step) → AllName t rest → AllName t (spec.number_turns x d rest)
number_turns_names t x d rest a =
    turns_names t (Does (instr.Compare (suc (suc d)) comparison.Less d (suc d)) ∷ []) (suc (suc d)) (Does (instr.Share x d) ∷ rest) ((tt, tt), tt) ((tt, tt), a)

quantify_names : (t : Shapes) (all : Bool) (x d : ℕ) (body gone : List Step) → AllName t body → AllName t gone → AllName t (spec.quantify all x d body gone)
quantify_names t all x d body gone h k =
    names_append t (spec.number_turns x d (body ++ spec.turn_end all d gone)) (spec.ends all d gone)
    (number_turns_names t x d (body ++ spec.turn_end all d gone) (names_append t body (spec.turn_end all d gone) h (turn_end_names t all d gone)))
    (names_append t gone _ k ((tt, tt), said_names t d (not all) gone k))

-- ---- expressions

mutual
  pub code_names : (c : Context) (e : Expr ℕ) (s : Variables) (d : ℕ) → StandsExpr c.table e → AllName c.table (spec.code c e s d)
  code_names c (NullExpr at) s d h = ((tt, tt), tt)
  code_names c (BoolExpr at truth) s d h = ((tt, tt), tt)
  code_names c (IntExpr at number) s d h = ((tt, tt), tt)
  code_names c (VarExpr at x) s d h = use_names c.table (has s x) d x
  code_names c (CallExpr at f args) s d h = names_append c.table (spec.codes c args s d) _ (codes_names c args s d h) (call_names c.table (target c.results f) f d (spec.count_of args))
  code_names c (NegExpr at a) s d h = names_append c.table (unless_read (variable_in a) (spec.code c a s d)) _ (operand_names c.table (variable_in a) (spec.code c a s d) (code_names c a s d h)) ((tt, tt), ((tt, tt), tt))
  code_names c (NotExpr at a) s d h = names_append c.table (unless_read (variable_in a) (spec.code c a s d)) _ (operand_names c.table (variable_in a) (spec.code c a s d) (code_names c a s d h)) ((tt, tt), tt)
  code_names c (LenExpr at a) s d h = names_append c.table (unless_read (read a s) (spec.code c a s d)) _ (operand_names c.table (read a s) (spec.code c a s d) (code_names c a s d h)) ((tt, tt), tt)
  code_names c (BinaryExpr at o x y) s d h =
      let one = first_read o x y s in let two = second_read o y s in let right = spec.code c y s (spec.right_register o d) in
      names_append c.table (unless_read one (spec.code c x (before y s) d)) _ (operand_names c.table one (spec.code c x (before y s) d) (code_names c x (before y s) d h.0))
      (operate_names c.table o d (standing one d) (standing two (spec.right_register o d)) (unless_read two right) (spec.released (before y s) s) (plain_or_read two (spec.is_plain y))
      (operand_names c.table two right (code_names c y s (spec.right_register o d) h.1)) (released_names c.table (before y s) s))
  code_names c (IsExpr at a ty) s d h =
      let one = spec.tested_read ty a s in
      names_append c.table (unless_read one (spec.code c a s d)) (spec.tested c ty one d) (operand_names c.table one (spec.code c a s d) (code_names c a s d h.0)) (tested_names c ty one d h.1)
  code_names c (IndexExpr at x y) s d h =
      names_append c.table (unless_read (read x s) (spec.code c x (before y s) d)) _ (operand_names c.table (read x s) (spec.code c x (before y s) d) (code_names c x (before y s) d h.0))
      (names_append c.table (unless_read (variable_in y) (spec.code c y s (suc d))) _ (operand_names c.table (variable_in y) (spec.code c y s (suc d)) (code_names c y s (suc d) h.1)) ((tt, tt), tt))
  code_names c (FieldExpr at a name) s d h = names_append c.table (unless_read (read a s) (spec.code c a s d)) _ (operand_names c.table (read a s) (spec.code c a s d) (code_names c a s d h.0)) ((tt, (number_within name c.table.names h.1, tt)), tt)
  code_names c (ListExpr at items) s d h = names_append c.table (spec.codes c items s d) _ (codes_names c items s d h) ((tt, tt), tt)
  code_names c (RepeatExpr at x y) s d h = names_append c.table (spec.code c x (before y s) d) _ (code_names c x (before y s) d h.0) (names_append c.table (spec.code c y s (suc d)) _ (code_names c y s (suc d) h.1) ((tt, tt), tt))
  code_names c (RecordExpr at fs) s d h = names_append c.table (spec.field_codes c fs s d) _ (field_codes_names c fs s d h.1) (((number_within _ c.table.lists h.0.1, tt), tt), tt)
  code_names c (QuantExpr at all x from to body) s d h =
      names_append c.table (spec.code c from (before to (turned x body s)) d) _ (code_names c from (before to (turned x body s)) d h.0)
      (names_append c.table (spec.code c to (turned x body s) (suc d)) _ (code_names c to (turned x body s) (suc d) h.1.0)
      (quantify_names c.table all x d (spec.code c body (turned x body s) (suc (suc d))) (spec.released (turned x body s) s) (code_names c body (turned x body s) (suc (suc d)) h.1.1) (released_names c.table (turned x body s) s)))

  pub codes_names : (c : Context) (es : Exprs ℕ) (s : Variables) (d : ℕ) → StandExprs c.table es → AllName c.table (spec.codes c es s d)
  codes_names c NoExprs s d h = tt
  codes_names c (MoreExprs e es) s d h = names_append c.table (spec.code c e (before_all es s) d) _ (code_names c e (before_all es s) d h.0) (codes_names c es s (suc d) h.1)

  field_codes_names : (c : Context) (fs : Fields ℕ) (s : Variables) (d : ℕ) → StandFields c.table fs → AllName c.table (spec.field_codes c fs s d)
  field_codes_names c NoFields s d h = tt
  field_codes_names c (MoreFields name e fs) s d h = names_append c.table (spec.code c e (before_fields fs s) d) _ (code_names c e (before_fields fs s) d h.0) (field_codes_names c fs s (suc d) h.1)

-- where the value comes straight into a register
pub into_names : (c : Context) (e : Expr ℕ) (s : Variables) (d t : ℕ) → StandsExpr c.table e → AllName c.table (into c e s d t)
into_names c (NullExpr at) s d t h = ((tt, tt), tt)
into_names c (BoolExpr at truth) s d t h = ((tt, tt), tt)
into_names c (IntExpr at number) s d t h = ((tt, tt), tt)
into_names c (VarExpr at x) s d t h = use_names c.table (has s x) t x
into_names c (CallExpr at f args) s d t h = code_names c (CallExpr at f args) s d h
into_names c (NegExpr at a) s d t h = names_append c.table (unless_read (variable_in a) (spec.code c a s d)) _ (operand_names c.table (variable_in a) (spec.code c a s d) (code_names c a s d h)) ((tt, tt), ((tt, tt), tt))
into_names c (NotExpr at a) s d t h = names_append c.table (unless_read (variable_in a) (spec.code c a s d)) _ (operand_names c.table (variable_in a) (spec.code c a s d) (code_names c a s d h)) ((tt, tt), tt)
into_names c (LenExpr at a) s d t h = names_append c.table (unless_read (read a s) (spec.code c a s d)) _ (operand_names c.table (read a s) (spec.code c a s d) (code_names c a s d h)) ((tt, tt), tt)
into_names c (BinaryExpr at o x y) s d t h =
    let one = first_read o x y s in let two = second_read o y s in let right = spec.code c y s (spec.right_register o d) in
    names_append c.table (unless_read one (spec.code c x (before y s) d)) _ (operand_names c.table one (spec.code c x (before y s) d) (code_names c x (before y s) d h.0))
    (operate_names c.table o t (standing one d) (standing two (spec.right_register o d)) (unless_read two right) (spec.released (before y s) s) (plain_or_read two (spec.is_plain y))
    (operand_names c.table two right (code_names c y s (spec.right_register o d) h.1)) (released_names c.table (before y s) s))
into_names c (IsExpr at a ty) s d t h = code_names c (IsExpr at a ty) s d h
into_names c (IndexExpr at x y) s d t h =
    names_append c.table (unless_read (read x s) (spec.code c x (before y s) d)) _ (operand_names c.table (read x s) (spec.code c x (before y s) d) (code_names c x (before y s) d h.0))
    (names_append c.table (unless_read (variable_in y) (spec.code c y s (suc d))) _ (operand_names c.table (variable_in y) (spec.code c y s (suc d)) (code_names c y s (suc d) h.1)) ((tt, tt), tt))
into_names c (FieldExpr at a name) s d t h = names_append c.table (unless_read (read a s) (spec.code c a s d)) _ (operand_names c.table (read a s) (spec.code c a s d) (code_names c a s d h.0)) ((tt, (number_within name c.table.names h.1, tt)), tt)
into_names c (ListExpr at items) s d t h = code_names c (ListExpr at items) s d h
into_names c (RepeatExpr at x y) s d t h = code_names c (RepeatExpr at x y) s d h
into_names c (RecordExpr at fs) s d t h = code_names c (RecordExpr at fs) s d h
into_names c (QuantExpr at all x from to body) s d t h = code_names c (QuantExpr at all x from to body) s d h
