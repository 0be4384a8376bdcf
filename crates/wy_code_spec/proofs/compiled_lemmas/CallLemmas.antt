-- Each instruction calls a routine of the program.
use Rattle.std.proofs.Common.{◌≡◌, ◌<◌, ◌+◌, ℕ, zero, suc, List, [], ◌∷◌, ◌++◌, length, Bool, true, false, not, cond, Option, Some, None, pos, refl, arith}
use Rattle.wy_core.specs.Types.{Ty, NullTy, BoolTy, IntTy, AnyTy, VoidTy, RecordTy, ArrayTy, UnionTy, InterTy, NotTy, NamedTy, NormalTy, FieldTys, NoFieldTys, MoreFieldTys}
use Rattle.wy_core.specs.CoreTree.{Expr, NullExpr, BoolExpr, IntExpr, VarExpr, CallExpr, NegExpr, NotExpr, LenExpr, BinaryExpr, IsExpr, IndexExpr, FieldExpr, ListExpr, RepeatExpr, RecordExpr, QuantExpr, Exprs, NoExprs, MoreExprs, Fields, NoFields, MoreFields}
use Rattle.wy_core.specs.declared.expressions.Op.{Op}
use Rattle.wy_core.specs.declared.expressions.Op.TheVariants as op
use Rattle.wy_lemmas.proofs.Lists.{AreAllBelow as Below}
use Rattle.wy_live.specs.Sets.{Variables, has}
use Rattle.wy_live.specs.Walks.{before, before_all, before_fields, turned}
use Rattle.wy_code.specs.declared.instructions.Instr.TheVariants as instr
use Rattle.wy_code.specs.declared.instructions.Comparison.TheVariants as comparison
use Rattle.wy_code.specs.declared.instructions.Scalar.TheVariants as scalar
use Rattle.wy_code.specs.declared.pieces.steps.Step.{Step}
use Rattle.wy_code.specs.declared.pieces.steps.Step.TheVariants.{Does, GoesOn, GoesBack, GoesOnUnless}
use Rattle.wy_code.specs.pieces.Steps.{clear, dropped, fork, turns, where_true}
use Rattle.wy_code_spec.specs.declared.tables.context.Context.{Context}
use Rattle.wy_code_spec.specs.declared.tables.targets.Target.{Target}
use Rattle.wy_code_spec.specs.declared.tables.targets.Target.TheVariants.{Declared, Prints, PrintsInt, Nothing}
use Rattle.wy_code_spec.specs.tables.Tables.{target}
use Rattle.wy_code_spec.specs.compiled.TypeTests as test
use Rattle.wy_code_spec.specs.compiled.Operands.{variable_in, read, first_read, second_read, standing, unless_read, plain_or_read}
use Rattle.wy_code_spec.specs.compiled.Expressions as spec
use Rattle.wy_code_spec.specs.compiled.Straight.{into}
use Rattle.wy_core.specs.formed.Offers.{Offers}
use Rattle.wy_core.specs.formed.Bound.{Scope, BoundTy, BoundFieldTys, BoundExpr, BoundExprs, BoundFields}
use Rattle.wy_code_spec.specs.compiled.Ranges.{routines_in}

-- each instruction of the code
abbrev pub AllCall : ℕ → List Step → Type 0
AllCall t [] = Unit {0}
AllCall t (Does i ∷ steps) = Below t (routines_in i) × AllCall t steps
AllCall t (GoesOn n ∷ steps) = AllCall t steps
AllCall t (GoesBack n ∷ steps) = AllCall t steps
AllCall t (GoesOnUnless r n ∷ steps) = AllCall t steps

pub calls_append : (t : ℕ) (xs ys : List Step) → AllCall t xs → AllCall t ys → AllCall t (xs ++ ys)
calls_append t [] ys a b = b
calls_append t (Does i ∷ xs) ys a b = (a.0, calls_append t xs ys a.1 b)
calls_append t (GoesOn n ∷ xs) ys a b = calls_append t xs ys a b
calls_append t (GoesBack n ∷ xs) ys a b = calls_append t xs ys a b
calls_append t (GoesOnUnless r n ∷ xs) ys a b = calls_append t xs ys a b

pub clear_calls : (t : ℕ) (rs : List ℕ) → AllCall t (clear rs)
clear_calls t [] = tt
clear_calls t (r ∷ rs) = (tt, tt)

pub dropped_calls : (t : ℕ) (r f : ℕ) → AllCall t (dropped r f)
dropped_calls t r f = (tt, (tt, tt))

pub where_calls : (t : ℕ) (r : ℕ) (first : List Step) → AllCall t first → AllCall t (where_true r first)
where_calls t r [] a = tt
where_calls t r (s ∷ first) a = a

pub fork_calls : (t : ℕ) (r : ℕ) (first second : List Step) → AllCall t first → AllCall t second → AllCall t (fork r first second)
fork_calls t r first [] a b = where_calls t r first a
fork_calls t r first (s ∷ second) a b = calls_append t first (GoesOn (length (s ∷ second)) ∷ s ∷ second) a b

pub turns_calls : (t : ℕ) (test : List Step) (r : ℕ) (body : List Step) → AllCall t test → AllCall t body → AllCall t (turns test r body)
turns_calls t test r body a b = calls_append t test _ a (calls_append t body _ b tt)

-- ---- tests of types, where there are k of them that are declared

item_turns_calls : (t : ℕ) (v r f : ℕ) (rest : List Step) → AllCall t rest → AllCall t (test.item_turns v r f rest)
item_turns_calls t v r f rest a = turns_calls t (Does (instr.Compare r comparison.Less (suc f) f) ∷ []) r (Does (instr.Get (suc (suc f)) v (suc f)) ∷ rest) (tt, tt) (tt, a)

mutual
  pub test_calls : (c : Context) (k : ℕ) (t : Ty) (v r f : ℕ) → BoundTy k t → AllCall (length c.results + k) (test.test c t v r f)
  test_calls c k NullTy v r f h = (tt, tt)
  test_calls c k BoolTy v r f h = (tt, tt)
  test_calls c k IntTy v r f h = (tt, tt)
  test_calls c k AnyTy v r f h = (tt, tt)
  test_calls c k VoidTy v r f h = (tt, tt)
  test_calls c k (RecordTy fs) v r f h = (tt, fork_calls (length c.results + k) r (test.fields_test c fs v r f) [] (fields_calls c k fs v r f h.1) tt)
  test_calls c k (ArrayTy t) v r f h =
      let one = test.test c t (suc (suc f)) r (suc (suc (suc f))) in
      let turn : AllCall (length c.results + k) (one ++ test.item_end r f) = calls_append (length c.results + k) one (test.item_end r f) (test_calls c k t (suc (suc f)) r (suc (suc (suc f))) h) (tt, (tt, (tt, (tt, tt)))) in
      let items : AllCall (length c.results + k) (test.items_test v r f one) = calls_append (length c.results + k) (test.item_turns v r f (one ++ test.item_end r f)) (test.yes r) (item_turns_calls (length c.results + k) v r f (one ++ test.item_end r f) turn) (tt, tt) in
      (tt, fork_calls (length c.results + k) r (Does (instr.Len f v) ∷ Does (instr.Const (suc f) (scalar.Int (pos 0))) ∷ test.items_test v r f one) [] (tt, (tt, items)) tt)
  test_calls c k (UnionTy s t) v r f h = calls_append (length c.results + k) (test.test c s v r f) (fork r [] (test.test c t v r f)) (test_calls c k s v r f h.0) (fork_calls (length c.results + k) r [] (test.test c t v r f) tt (test_calls c k t v r f h.1))
  test_calls c k (InterTy s t) v r f h = calls_append (length c.results + k) (test.test c s v r f) (fork r (test.test c t v r f) []) (test_calls c k s v r f h.0) (fork_calls (length c.results + k) r (test.test c t v r f) [] (test_calls c k t v r f h.1) tt)
  test_calls c k (NotTy t) v r f h = calls_append (length c.results + k) (test.test c t v r f) _ (test_calls c k t v r f h) (tt, tt)
  test_calls c k (NamedTy n) v r f h = (tt, ((omega arith, tt), tt))
  test_calls c k (NormalTy union) v r f h = absurd h

  fields_calls : (c : Context) (k : ℕ) (fs : FieldTys) (v r f : ℕ) → BoundFieldTys k fs → AllCall (length c.results + k) (test.fields_test c fs v r f)
  fields_calls c k NoFieldTys v r f h = tt
  fields_calls c k (MoreFieldTys name t fs) v r f h = (
    tt,
    calls_append (length c.results + k) (test.test c t f r (suc f)) (test.field_end r f (test.fields_test c fs v r f)) (test_calls c k t f r (suc f) h.0)
        (calls_append (length c.results + k) (dropped f (suc f)) (fork r (test.fields_test c fs v r f) []) (dropped_calls (length c.results + k) f (suc f)) (fork_calls (length c.results + k) r (test.fields_test c fs v r f) [] (fields_calls c k fs v r f h.1) tt)),
  )

-- ---- pieces of expressions

pub released_calls : (t : ℕ) (s u : Variables) → AllCall t (spec.released s u)
released_calls t s u = clear_calls t (spec.lost s u)

pub unless_calls : (t : ℕ) (plain : Bool) (r : ℕ) → AllCall t (spec.release_unless plain r)
unless_calls t true r = tt
unless_calls t false r = (tt, tt)

-- where an operand is read in its register it has no code
pub operand_calls : (t : ℕ) (o : Option ℕ) (steps : List Step) → AllCall t steps → AllCall t (unless_read o steps)
operand_calls t None steps a = a
operand_calls t (Some x) steps a = tt

operator_calls : (t : ℕ) (o : Op) (d l r : ℕ) (plain : Bool) → AllCall t (spec.operator o d l r plain)
operator_calls t op.Add d l r plain = (tt, tt)
operator_calls t op.Sub d l r plain = (tt, tt)
operator_calls t op.Mul d l r plain = (tt, tt)
operator_calls t op.Div d l r plain = (tt, tt)
operator_calls t op.Mod d l r plain = (tt, tt)
operator_calls t op.Equal d l r plain = (tt, unless_calls t plain r)
operator_calls t op.Less d l r plain = (tt, tt)
operator_calls t op.LessEqual d l r plain = (tt, tt)
operator_calls t op.Greater d l r plain = (tt, tt)
operator_calls t op.GreaterEqual d l r plain = (tt, tt)
operator_calls t op.And d l r plain = tt
operator_calls t op.Or d l r plain = tt

operate_calls : (t : ℕ) (o : Op) (d l r : ℕ) (right skipped : List Step) (plain : Bool) → AllCall t right → AllCall t skipped → AllCall t (spec.operate o d l r right skipped plain)
operate_calls t op.Add d l r right skipped plain h k = calls_append t right _ h (operator_calls t op.Add d l r plain)
operate_calls t op.Sub d l r right skipped plain h k = calls_append t right _ h (operator_calls t op.Sub d l r plain)
operate_calls t op.Mul d l r right skipped plain h k = calls_append t right _ h (operator_calls t op.Mul d l r plain)
operate_calls t op.Div d l r right skipped plain h k = calls_append t right _ h (operator_calls t op.Div d l r plain)
operate_calls t op.Mod d l r right skipped plain h k = calls_append t right _ h (operator_calls t op.Mod d l r plain)
operate_calls t op.Equal d l r right skipped plain h k = calls_append t right _ h (operator_calls t op.Equal d l r plain)
operate_calls t op.Less d l r right skipped plain h k = calls_append t right _ h (operator_calls t op.Less d l r plain)
operate_calls t op.LessEqual d l r right skipped plain h k = calls_append t right _ h (operator_calls t op.LessEqual d l r plain)
operate_calls t op.Greater d l r right skipped plain h k = calls_append t right _ h (operator_calls t op.Greater d l r plain)
operate_calls t op.GreaterEqual d l r right skipped plain h k = calls_append t right _ h (operator_calls t op.GreaterEqual d l r plain)
operate_calls t op.And d l r right skipped plain h k = calls_append t (fork d right []) skipped (fork_calls t d right [] h tt) k
operate_calls t op.Or d l r right skipped plain h k = fork_calls t d skipped right k h

pub called_within : (results : List Bool) (f : ℕ) (gives : Bool) → target results f ≡ Declared gives → f < length results
called_within [] zero gives h = cc
called_within [] (suc zero) gives h = cc
called_within [] (suc (suc f)) gives h = cc
called_within (b ∷ bs) zero gives h = omega arith
called_within (b ∷ bs) (suc f) gives h = let l : f < length bs = called_within bs f gives h in omega arith

-- a test, where it leaves the value in its register or releases it
pub tested_calls : (c : Context) (k : ℕ) (ty : Ty) (o : Option ℕ) (d : ℕ) → BoundTy k ty → AllCall (length c.results + k) (spec.tested c ty o d)
tested_calls c k ty None d h = calls_append (length c.results + k) (test.test c ty d (suc d) (suc (suc d))) _ (test_calls c k ty d (suc d) (suc (suc d)) h) (tt, (tt, (tt, tt)))
tested_calls c k ty (Some x) d h = calls_append (length c.results + k) (test.test c ty x (suc d) (suc (suc d))) _ (test_calls c k ty x (suc d) (suc (suc d)) h) (tt, tt)

call_calls : (results : List Bool) (k f d count : ℕ) → AllCall (length results + k) (spec.call (target results f) f d count)
call_calls results k f d count = go (target results f) (λ gives is. called_within results f gives is)
  where
    go : (to : Target) → ((gives : Bool) → to ≡ Declared gives → f < length results) → AllCall (length results + k) (spec.call to f d count)
    go (Declared gives) h = let l : f < length results = h gives refl in ((omega arith, tt), tt)
    go Prints h = (tt, (tt, tt))
    go PrintsInt h = (tt, (tt, tt))
    go Nothing h = (tt, tt)

use_calls : (t : ℕ) (shared : Bool) (d x : ℕ) → AllCall t (Does (cond shared (instr.Share d x) (instr.Move d x)) ∷ [])
use_calls t true d x = (tt, tt)
use_calls t false d x = (tt, tt)

said_calls : (t : ℕ) (d : ℕ) (truth : Bool) (gone : List Step) → AllCall t gone → AllCall t (spec.said d truth gone)
said_calls t d truth gone h = calls_append t gone _ h (tt, tt)

turn_end_calls : (t : ℕ) (all : Bool) (d : ℕ) (gone : List Step) → AllCall t (spec.turn_end all d gone)
turn_end_calls t true d gone = (tt, (tt, tt))
turn_end_calls t false d gone = (tt, (tt, (tt, tt)))

number_turns_calls : (t : ℕ) (x d : ℕ) (rest : List Step) → AllCall t rest → AllCall t (spec.number_turns x d rest)
number_turns_calls t x d rest a =
    turns_calls t (Does (instr.Compare (suc (suc d)) comparison.Less d (suc d)) ∷ []) (suc (suc d)) (Does (instr.Share x d) ∷ rest) (tt, tt) (tt, a)

quantify_calls : (t : ℕ) (all : Bool) (x d : ℕ) (body gone : List Step) → AllCall t body → AllCall t gone → AllCall t (spec.quantify all x d body gone)
quantify_calls t all x d body gone h k =
    calls_append t (spec.number_turns x d (body ++ spec.turn_end all d gone)) (spec.ends all d gone)
    (number_turns_calls t x d (body ++ spec.turn_end all d gone) (calls_append t body (spec.turn_end all d gone) h (turn_end_calls t all d gone)))
    (calls_append t gone _ k (tt, said_calls t d (not all) gone k))

-- ---- expressions

mutual
  pub code_calls : (c : Context) (o : Offers) (n : ℕ) (vs : Scope) (e : Expr ℕ) (s : Variables) (d : ℕ) → BoundExpr o n vs e → AllCall (length c.results + o.types) (spec.code c e s d)
  code_calls c o n vs (NullExpr at) s d h = (tt, tt)
  code_calls c o n vs (BoolExpr at truth) s d h = (tt, tt)
  code_calls c o n vs (IntExpr at number) s d h = (tt, tt)
  code_calls c o n vs (VarExpr at x) s d h = use_calls (length c.results + o.types) (has s x) d x
  code_calls c o n vs (CallExpr at f args) s d h = calls_append (length c.results + o.types) (spec.codes c args s d) _ (codes_calls c o n vs args s d h.1) (call_calls c.results o.types f d (spec.count_of args))
  code_calls c o n vs (NegExpr at a) s d h = calls_append (length c.results + o.types) (unless_read (variable_in a) (spec.code c a s d)) _ (operand_calls (length c.results + o.types) (variable_in a) (spec.code c a s d) (code_calls c o n vs a s d h)) (tt, (tt, tt))
  code_calls c o n vs (NotExpr at a) s d h = calls_append (length c.results + o.types) (unless_read (variable_in a) (spec.code c a s d)) _ (operand_calls (length c.results + o.types) (variable_in a) (spec.code c a s d) (code_calls c o n vs a s d h)) (tt, tt)
  code_calls c o n vs (LenExpr at a) s d h = calls_append (length c.results + o.types) (unless_read (read a s) (spec.code c a s d)) _ (operand_calls (length c.results + o.types) (read a s) (spec.code c a s d) (code_calls c o n vs a s d h)) (tt, tt)
  code_calls c o n vs (BinaryExpr at w x y) s d h =
      let all = length c.results + o.types in let one = first_read w x y s in let two = second_read w y s in let right = spec.code c y s (spec.right_register w d) in
      calls_append all (unless_read one (spec.code c x (before y s) d)) _ (operand_calls all one (spec.code c x (before y s) d) (code_calls c o n vs x (before y s) d h.0))
      (operate_calls all w d (standing one d) (standing two (spec.right_register w d)) (unless_read two right) (spec.released (before y s) s) (plain_or_read two (spec.is_plain y))
      (operand_calls all two right (code_calls c o n vs y s (spec.right_register w d) h.1)) (released_calls all (before y s) s))
  code_calls c o n vs (IsExpr at a ty) s d h =
      let one = spec.tested_read ty a s in
      calls_append (length c.results + o.types) (unless_read one (spec.code c a s d)) (spec.tested c ty one d) (operand_calls (length c.results + o.types) one (spec.code c a s d) (code_calls c o n vs a s d h.0)) (tested_calls c o.types ty one d h.1)
  code_calls c o n vs (IndexExpr at x y) s d h =
      let all = length c.results + o.types in
      calls_append all (unless_read (read x s) (spec.code c x (before y s) d)) _ (operand_calls all (read x s) (spec.code c x (before y s) d) (code_calls c o n vs x (before y s) d h.0))
      (calls_append all (unless_read (variable_in y) (spec.code c y s (suc d))) _ (operand_calls all (variable_in y) (spec.code c y s (suc d)) (code_calls c o n vs y s (suc d) h.1)) (tt, tt))
  code_calls c o n vs (FieldExpr at a name) s d h = calls_append (length c.results + o.types) (unless_read (read a s) (spec.code c a s d)) _ (operand_calls (length c.results + o.types) (read a s) (spec.code c a s d) (code_calls c o n vs a s d h)) (tt, tt)
  code_calls c o n vs (ListExpr at items) s d h = calls_append (length c.results + o.types) (spec.codes c items s d) _ (codes_calls c o n vs items s d h) (tt, tt)
  code_calls c o n vs (RepeatExpr at x y) s d h = calls_append (length c.results + o.types) (spec.code c x (before y s) d) _ (code_calls c o n vs x (before y s) d h.0) (calls_append (length c.results + o.types) (spec.code c y s (suc d)) _ (code_calls c o n vs y s (suc d) h.1) (tt, tt))
  code_calls c o n vs (RecordExpr at fs) s d h = calls_append (length c.results + o.types) (spec.field_codes c fs s d) _ (field_codes_calls c o n vs fs s d h.1) (tt, tt)
  code_calls c o n vs (QuantExpr at all x from to body) s d h =
      calls_append (length c.results + o.types) (spec.code c from (before to (turned x body s)) d) _ (code_calls c o n vs from (before to (turned x body s)) d h.1)
      (calls_append (length c.results + o.types) (spec.code c to (turned x body s) (suc d)) _ (code_calls c o n vs to (turned x body s) (suc d) h.2)
      (quantify_calls (length c.results + o.types) all x d (spec.code c body (turned x body s) (suc (suc d))) (spec.released (turned x body s) s) (code_calls c o n (x ∷ vs) body (turned x body s) (suc (suc d)) h.3) (released_calls (length c.results + o.types) (turned x body s) s)))

  pub codes_calls : (c : Context) (o : Offers) (n : ℕ) (vs : Scope) (es : Exprs ℕ) (s : Variables) (d : ℕ) → BoundExprs o n vs es → AllCall (length c.results + o.types) (spec.codes c es s d)
  codes_calls c o n vs NoExprs s d h = tt
  codes_calls c o n vs (MoreExprs e es) s d h = calls_append (length c.results + o.types) (spec.code c e (before_all es s) d) _ (code_calls c o n vs e (before_all es s) d h.0) (codes_calls c o n vs es s (suc d) h.1)

  field_codes_calls : (c : Context) (o : Offers) (n : ℕ) (vs : Scope) (fs : Fields ℕ) (s : Variables) (d : ℕ) → BoundFields o n vs fs → AllCall (length c.results + o.types) (spec.field_codes c fs s d)
  field_codes_calls c o n vs NoFields s d h = tt
  field_codes_calls c o n vs (MoreFields name e fs) s d h = calls_append (length c.results + o.types) (spec.code c e (before_fields fs s) d) _ (code_calls c o n vs e (before_fields fs s) d h.0) (field_codes_calls c o n vs fs s (suc d) h.1)

-- where the value comes straight into a register
pub into_calls : (c : Context) (o : Offers) (n : ℕ) (vs : Scope) (e : Expr ℕ) (s : Variables) (d t : ℕ) → BoundExpr o n vs e → AllCall (length c.results + o.types) (into c e s d t)
into_calls c o n vs (NullExpr at) s d t h = (tt, tt)
into_calls c o n vs (BoolExpr at truth) s d t h = (tt, tt)
into_calls c o n vs (IntExpr at number) s d t h = (tt, tt)
into_calls c o n vs (VarExpr at x) s d t h = use_calls (length c.results + o.types) (has s x) t x
into_calls c o n vs (CallExpr at f args) s d t h = code_calls c o n vs (CallExpr at f args) s d h
into_calls c o n vs (NegExpr at a) s d t h = calls_append (length c.results + o.types) (unless_read (variable_in a) (spec.code c a s d)) _ (operand_calls (length c.results + o.types) (variable_in a) (spec.code c a s d) (code_calls c o n vs a s d h)) (tt, (tt, tt))
into_calls c o n vs (NotExpr at a) s d t h = calls_append (length c.results + o.types) (unless_read (variable_in a) (spec.code c a s d)) _ (operand_calls (length c.results + o.types) (variable_in a) (spec.code c a s d) (code_calls c o n vs a s d h)) (tt, tt)
into_calls c o n vs (LenExpr at a) s d t h = calls_append (length c.results + o.types) (unless_read (read a s) (spec.code c a s d)) _ (operand_calls (length c.results + o.types) (read a s) (spec.code c a s d) (code_calls c o n vs a s d h)) (tt, tt)
into_calls c o n vs (BinaryExpr at w x y) s d t h =
    let all = length c.results + o.types in let one = first_read w x y s in let two = second_read w y s in let right = spec.code c y s (spec.right_register w d) in
    calls_append all (unless_read one (spec.code c x (before y s) d)) _ (operand_calls all one (spec.code c x (before y s) d) (code_calls c o n vs x (before y s) d h.0))
    (operate_calls all w t (standing one d) (standing two (spec.right_register w d)) (unless_read two right) (spec.released (before y s) s) (plain_or_read two (spec.is_plain y))
    (operand_calls all two right (code_calls c o n vs y s (spec.right_register w d) h.1)) (released_calls all (before y s) s))
into_calls c o n vs (IsExpr at a ty) s d t h = code_calls c o n vs (IsExpr at a ty) s d h
into_calls c o n vs (IndexExpr at x y) s d t h =
    let all = length c.results + o.types in
    calls_append all (unless_read (read x s) (spec.code c x (before y s) d)) _ (operand_calls all (read x s) (spec.code c x (before y s) d) (code_calls c o n vs x (before y s) d h.0))
    (calls_append all (unless_read (variable_in y) (spec.code c y s (suc d))) _ (operand_calls all (variable_in y) (spec.code c y s (suc d)) (code_calls c o n vs y s (suc d) h.1)) (tt, tt))
into_calls c o n vs (FieldExpr at a name) s d t h = calls_append (length c.results + o.types) (unless_read (read a s) (spec.code c a s d)) _ (operand_calls (length c.results + o.types) (read a s) (spec.code c a s d) (code_calls c o n vs a s d h)) (tt, tt)
into_calls c o n vs (ListExpr at items) s d t h = code_calls c o n vs (ListExpr at items) s d h
into_calls c o n vs (RepeatExpr at x y) s d t h = code_calls c o n vs (RepeatExpr at x y) s d h
into_calls c o n vs (RecordExpr at fs) s d t h = code_calls c o n vs (RecordExpr at fs) s d h
into_calls c o n vs (QuantExpr at all x from to body) s d t h = code_calls c o n vs (QuantExpr at all x from to body) s d h
