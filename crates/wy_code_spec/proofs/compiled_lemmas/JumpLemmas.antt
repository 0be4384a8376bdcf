-- The jumps in the code of tests of types and of expressions stay within it.
use Rattle.std.proofs.Common.{◌≤◌, ◌+◌, ℕ, suc, List, [], ◌∷◌, ◌++◌, length, Bool, true, false, not, cond, Option, Some, None, pos, refl, length-append, arith}
use Rattle.wy_core.specs.Types.{Ty, NullTy, BoolTy, IntTy, AnyTy, VoidTy, RecordTy, ArrayTy, UnionTy, InterTy, NotTy, NamedTy, NormalTy, FieldTys, NoFieldTys, MoreFieldTys}
use Rattle.wy_core.specs.CoreTree.{Expr, NullExpr, BoolExpr, IntExpr, VarExpr, CallExpr, NegExpr, NotExpr, LenExpr, BinaryExpr, IsExpr, IndexExpr, FieldExpr, ListExpr, RepeatExpr, RecordExpr, QuantExpr, Exprs, NoExprs, MoreExprs, Fields, NoFields, MoreFields}
use Rattle.wy_core.specs.declared.expressions.Op.{Op}
use Rattle.wy_core.specs.declared.expressions.Op.TheVariants as op
use Rattle.wy_live.specs.Sets.{Variables, has}
use Rattle.wy_live.specs.Walks.{before, before_all, before_fields, turned}
use Rattle.wy_code.specs.declared.instructions.Comparison.TheVariants as comparison
use Rattle.wy_code.specs.declared.instructions.Scalar.TheVariants as scalar
use Rattle.wy_code.specs.declared.instructions.Instr.TheVariants as instr
use Rattle.wy_code.specs.declared.pieces.steps.Step.{Step}
use Rattle.wy_code.specs.declared.pieces.steps.Step.TheVariants.{Does, GoesOn}
use Rattle.wy_code.specs.pieces.Steps.{dropped, fork}
use Rattle.wy_code_spec.specs.declared.tables.context.Context.{Context}
use Rattle.wy_code_spec.specs.declared.tables.targets.Target.{Target}
use Rattle.wy_code_spec.specs.declared.tables.targets.Target.TheVariants.{Declared, Prints, PrintsInt, Nothing}
use Rattle.wy_code_spec.specs.tables.Tables.{target}
use Rattle.wy_code_spec.specs.compiled.TypeTests as test
use Rattle.wy_code_spec.specs.compiled.Operands.{variable_in, read, first_read, second_read, standing, unless_read, plain_or_read}
use Rattle.wy_code_spec.specs.compiled.Expressions as spec
use Rattle.wy_code_spec.specs.compiled.Straight.{into}
use Rattle.wy_code_spec.proofs.compiled_lemmas.WithinLemmas.{Within, within_append, clear_within, dropped_within, fork_inside, turns_within}

-- ---- tests of types

item_turns_within : (v r f b : ℕ) (rest : List Step) → Within (suc b) rest → Within b (test.item_turns v r f rest)
item_turns_within v r f b rest w = turns_within b (Does (instr.Compare r comparison.Less (suc f) f) ∷ []) r (Does (instr.Get (suc (suc f)) v (suc f)) ∷ rest) (refl, tt) (refl, w)

mutual
  pub test_within : (c : Context) (t : Ty) (v r f b : ℕ) → Within b (test.test c t v r f)
  test_within c NullTy v r f b = (refl, tt)
  test_within c BoolTy v r f b = (refl, tt)
  test_within c IntTy v r f b = (refl, tt)
  test_within c AnyTy v r f b = (refl, tt)
  test_within c VoidTy v r f b = (refl, tt)
  test_within c (RecordTy fs) v r f b = (refl, fork_inside b r (test.fields_test c fs v r f) [] (fields_within c fs v r f b) tt)
  test_within c (ArrayTy t) v r f b =
      let one = test.test c t (suc (suc f)) r (suc (suc (suc f))) in
      let turn : Within (suc (length (test.yes r) + b)) (one ++ test.item_end r f) = within_append (suc (length (test.yes r) + b)) one (test.item_end r f) (test_within c t (suc (suc f)) r (suc (suc (suc f))) _) (refl, (refl, (omega arith, (refl, (refl, tt))))) in
      let items : Within b (test.items_test v r f one) = within_append b (test.item_turns v r f (one ++ test.item_end r f)) (test.yes r) (item_turns_within v r f (length (test.yes r) + b) (one ++ test.item_end r f) turn) (refl, tt) in
      (refl, fork_inside b r (Does (instr.Len f v) ∷ Does (instr.Const (suc f) (scalar.Int (pos 0))) ∷ test.items_test v r f one) [] (refl, (refl, items)) tt)
  test_within c (UnionTy s t) v r f b = within_append b (test.test c s v r f) (fork r [] (test.test c t v r f)) (test_within c s v r f _) (fork_inside b r [] (test.test c t v r f) tt (test_within c t v r f b))
  test_within c (InterTy s t) v r f b = within_append b (test.test c s v r f) (fork r (test.test c t v r f) []) (test_within c s v r f _) (fork_inside b r (test.test c t v r f) [] (test_within c t v r f b) tt)
  test_within c (NotTy t) v r f b = within_append b (test.test c t v r f) _ (test_within c t v r f _) (refl, tt)
  test_within c (NamedTy n) v r f b = (refl, (refl, tt))
  test_within c (NormalTy union) v r f b = (refl, tt)

  fields_within : (c : Context) (fs : FieldTys) (v r f b : ℕ) → Within b (test.fields_test c fs v r f)
  fields_within c NoFieldTys v r f b = tt
  fields_within c (MoreFieldTys name t fs) v r f b = (
    refl,
    within_append b (test.test c t f r (suc f)) (test.field_end r f (test.fields_test c fs v r f)) (test_within c t f r (suc f) _)
        (within_append b (dropped f (suc f)) (fork r (test.fields_test c fs v r f) []) (dropped_within b f (suc f)) (fork_inside b r (test.fields_test c fs v r f) [] (fields_within c fs v r f b) tt)),
  )

-- ---- pieces of expressions

pub released_within : (b : ℕ) (s t : Variables) → Within b (spec.released s t)
released_within b s t = clear_within b (spec.lost s t)

pub unless_within : (plain : Bool) (r b : ℕ) → Within b (spec.release_unless plain r)
unless_within true r b = tt
unless_within false r b = (refl, tt)

-- where an operand is read in its register it has no code
pub operand_within : (b : ℕ) (o : Option ℕ) (steps : List Step) → Within b steps → Within b (unless_read o steps)
operand_within b None steps w = w
operand_within b (Some x) steps w = tt

operator_within : (o : Op) (d l r : ℕ) (plain : Bool) (b : ℕ) → Within b (spec.operator o d l r plain)
operator_within op.Add d l r plain b = (refl, tt)
operator_within op.Sub d l r plain b = (refl, tt)
operator_within op.Mul d l r plain b = (refl, tt)
operator_within op.Div d l r plain b = (refl, tt)
operator_within op.Mod d l r plain b = (refl, tt)
operator_within op.Equal d l r plain b = (refl, unless_within plain r b)
operator_within op.Less d l r plain b = (refl, tt)
operator_within op.LessEqual d l r plain b = (refl, tt)
operator_within op.Greater d l r plain b = (refl, tt)
operator_within op.GreaterEqual d l r plain b = (refl, tt)
operator_within op.And d l r plain b = tt
operator_within op.Or d l r plain b = tt

operate_within : (o : Op) (d l r : ℕ) (right skipped : List Step) (plain : Bool) (b : ℕ) → ((n : ℕ) → Within n right) → ((n : ℕ) → Within n skipped) → Within b (spec.operate o d l r right skipped plain)
operate_within op.Add d l r right skipped plain b h k = within_append b right _ (h _) (operator_within op.Add d l r plain b)
operate_within op.Sub d l r right skipped plain b h k = within_append b right _ (h _) (operator_within op.Sub d l r plain b)
operate_within op.Mul d l r right skipped plain b h k = within_append b right _ (h _) (operator_within op.Mul d l r plain b)
operate_within op.Div d l r right skipped plain b h k = within_append b right _ (h _) (operator_within op.Div d l r plain b)
operate_within op.Mod d l r right skipped plain b h k = within_append b right _ (h _) (operator_within op.Mod d l r plain b)
operate_within op.Equal d l r right skipped plain b h k = within_append b right _ (h _) (operator_within op.Equal d l r plain b)
operate_within op.Less d l r right skipped plain b h k = within_append b right _ (h _) (operator_within op.Less d l r plain b)
operate_within op.LessEqual d l r right skipped plain b h k = within_append b right _ (h _) (operator_within op.LessEqual d l r plain b)
operate_within op.Greater d l r right skipped plain b h k = within_append b right _ (h _) (operator_within op.Greater d l r plain b)
operate_within op.GreaterEqual d l r right skipped plain b h k = within_append b right _ (h _) (operator_within op.GreaterEqual d l r plain b)
operate_within op.And d l r right skipped plain b h k = within_append b (fork d right []) skipped (fork_inside (length skipped + b) d right [] (h _) tt) (k b)
operate_within op.Or d l r right skipped plain b h k = fork_inside b d skipped right (k b) (h b)

-- a test, where it leaves the value in its register or releases it
pub tested_within : (c : Context) (ty : Ty) (o : Option ℕ) (d b : ℕ) → Within b (spec.tested c ty o d)
tested_within c ty None d b = within_append b (test.test c ty d (suc d) (suc (suc d))) _ (test_within c ty d (suc d) (suc (suc d)) _) (refl, (refl, (refl, tt)))
tested_within c ty (Some x) d b = within_append b (test.test c ty x (suc d) (suc (suc d))) _ (test_within c ty x (suc d) (suc (suc d)) _) (refl, tt)

call_within : (t : Target) (f d count b : ℕ) → Within b (spec.call t f d count)
call_within (Declared gives) f d count b = (refl, tt)
call_within Prints f d count b = (refl, (refl, tt))
call_within PrintsInt f d count b = (refl, (refl, tt))
call_within Nothing f d count b = (refl, tt)

use_within : (shared : Bool) (d x b : ℕ) → Within b (Does (cond shared (instr.Share d x) (instr.Move d x)) ∷ [])
use_within true d x b = (refl, tt)
use_within false d x b = (refl, tt)

said_within : (d : ℕ) (truth : Bool) (gone : List Step) (b : ℕ) → ((n : ℕ) → Within n gone) → Within b (spec.said d truth gone)
said_within d truth gone b h = within_append b gone _ (h _) (refl, tt)

ends_within : (all : Bool) (d : ℕ) (gone : List Step) (b : ℕ) → ((n : ℕ) → Within n gone) → Within b (spec.ends all d gone)
ends_within all d gone b h = within_append b gone _ (h _) (refl, (omega arith, said_within d (not all) gone b h))

turn_end_within : (all : Bool) (d : ℕ) (gone : List Step) (b : ℕ) → length gone + 3 ≤ b → Within b (spec.turn_end all d gone)
turn_end_within true d gone b h = (omega arith, (refl, (refl, tt)))
turn_end_within false d gone b h = (refl, (omega arith, (refl, (refl, tt))))

number_turns_within : (x d b : ℕ) (rest : List Step) → Within (suc b) rest → Within b (spec.number_turns x d rest)
number_turns_within x d b rest w =
    turns_within b (Does (instr.Compare (suc (suc d)) comparison.Less d (suc d)) ∷ []) (suc (suc d)) (Does (instr.Share x d) ∷ rest) (refl, tt) (refl, w)

quantify_within : (all : Bool) (x d : ℕ) (body gone : List Step) (b : ℕ) → ((n : ℕ) → Within n body) → ((n : ℕ) → Within n gone) → Within b (spec.quantify all x d body gone)
quantify_within all x d body gone b h k =
    let end = spec.ends all d gone in
    let far : length gone + 3 ≤ suc (length end + b) = omega (arith, length-append gone (Does (instr.Const d (scalar.Bool all)) ∷ GoesOn (length (spec.said d (not all) gone)) ∷ spec.said d (not all) gone)) in
    let turn : Within (suc (length end + b)) (body ++ spec.turn_end all d gone) = within_append (suc (length end + b)) body (spec.turn_end all d gone) (h _) (turn_end_within all d gone (suc (length end + b)) far) in
    within_append b (spec.number_turns x d (body ++ spec.turn_end all d gone)) end (number_turns_within x d (length end + b) (body ++ spec.turn_end all d gone) turn) (ends_within all d gone b k)

-- ---- expressions

mutual
  pub code_within : (c : Context) (e : Expr ℕ) (s : Variables) (d b : ℕ) → Within b (spec.code c e s d)
  code_within c (NullExpr at) s d b = (refl, tt)
  code_within c (BoolExpr at truth) s d b = (refl, tt)
  code_within c (IntExpr at number) s d b = (refl, tt)
  code_within c (VarExpr at x) s d b = use_within (has s x) d x b
  code_within c (CallExpr at f args) s d b = within_append b (spec.codes c args s d) _ (codes_within c args s d _) (call_within (target c.results f) f d (spec.count_of args) b)
  code_within c (NegExpr at a) s d b = within_append b (unless_read (variable_in a) (spec.code c a s d)) _ (operand_within _ (variable_in a) (spec.code c a s d) (code_within c a s d _)) (refl, (refl, tt))
  code_within c (NotExpr at a) s d b = within_append b (unless_read (variable_in a) (spec.code c a s d)) _ (operand_within _ (variable_in a) (spec.code c a s d) (code_within c a s d _)) (refl, tt)
  code_within c (LenExpr at a) s d b = within_append b (unless_read (read a s) (spec.code c a s d)) _ (operand_within _ (read a s) (spec.code c a s d) (code_within c a s d _)) (refl, tt)
  code_within c (BinaryExpr at o x y) s d b =
      let one = first_read o x y s in let two = second_read o y s in let right = spec.code c y s (spec.right_register o d) in
      within_append b (unless_read one (spec.code c x (before y s) d)) _ (operand_within _ one (spec.code c x (before y s) d) (code_within c x (before y s) d _))
      (operate_within o d (standing one d) (standing two (spec.right_register o d)) (unless_read two right) (spec.released (before y s) s) (plain_or_read two (spec.is_plain y)) b
      (λ n. operand_within n two right (code_within c y s (spec.right_register o d) n)) (λ n. released_within n (before y s) s))
  code_within c (IsExpr at a ty) s d b =
      let one = spec.tested_read ty a s in
      within_append b (unless_read one (spec.code c a s d)) (spec.tested c ty one d) (operand_within _ one (spec.code c a s d) (code_within c a s d _)) (tested_within c ty one d b)
  code_within c (IndexExpr at x y) s d b =
      within_append b (unless_read (read x s) (spec.code c x (before y s) d)) _ (operand_within _ (read x s) (spec.code c x (before y s) d) (code_within c x (before y s) d _))
      (within_append b (unless_read (variable_in y) (spec.code c y s (suc d))) _ (operand_within _ (variable_in y) (spec.code c y s (suc d)) (code_within c y s (suc d) _)) (refl, tt))
  code_within c (FieldExpr at a name) s d b = within_append b (unless_read (read a s) (spec.code c a s d)) _ (operand_within _ (read a s) (spec.code c a s d) (code_within c a s d _)) (refl, tt)
  code_within c (ListExpr at items) s d b = within_append b (spec.codes c items s d) _ (codes_within c items s d _) (refl, tt)
  code_within c (RepeatExpr at x y) s d b = within_append b (spec.code c x (before y s) d) _ (code_within c x (before y s) d _) (within_append b (spec.code c y s (suc d)) _ (code_within c y s (suc d) _) (refl, tt))
  code_within c (RecordExpr at fs) s d b = within_append b (spec.field_codes c fs s d) _ (fields_codes_within c fs s d _) (refl, tt)
  code_within c (QuantExpr at all x from to body) s d b =
      within_append b (spec.code c from (before to (turned x body s)) d) _ (code_within c from (before to (turned x body s)) d _)
      (within_append b (spec.code c to (turned x body s) (suc d)) _ (code_within c to (turned x body s) (suc d) _)
      (quantify_within all x d (spec.code c body (turned x body s) (suc (suc d))) (spec.released (turned x body s) s) b (λ n. code_within c body (turned x body s) (suc (suc d)) n) (λ n. released_within n (turned x body s) s)))

  pub codes_within : (c : Context) (es : Exprs ℕ) (s : Variables) (d b : ℕ) → Within b (spec.codes c es s d)
  codes_within c NoExprs s d b = tt
  codes_within c (MoreExprs e es) s d b = within_append b (spec.code c e (before_all es s) d) _ (code_within c e (before_all es s) d _) (codes_within c es s (suc d) b)

  fields_codes_within : (c : Context) (fs : Fields ℕ) (s : Variables) (d b : ℕ) → Within b (spec.field_codes c fs s d)
  fields_codes_within c NoFields s d b = tt
  fields_codes_within c (MoreFields name e fs) s d b = within_append b (spec.code c e (before_fields fs s) d) _ (code_within c e (before_fields fs s) d _) (fields_codes_within c fs s (suc d) b)

-- where the value comes straight into a register
pub into_within : (c : Context) (e : Expr ℕ) (s : Variables) (d t b : ℕ) → Within b (into c e s d t)
into_within c (NullExpr at) s d t b = (refl, tt)
into_within c (BoolExpr at truth) s d t b = (refl, tt)
into_within c (IntExpr at number) s d t b = (refl, tt)
into_within c (VarExpr at x) s d t b = use_within (has s x) t x b
into_within c (CallExpr at f args) s d t b = code_within c (CallExpr at f args) s d b
into_within c (NegExpr at a) s d t b = within_append b (unless_read (variable_in a) (spec.code c a s d)) _ (operand_within _ (variable_in a) (spec.code c a s d) (code_within c a s d _)) (refl, (refl, tt))
into_within c (NotExpr at a) s d t b = within_append b (unless_read (variable_in a) (spec.code c a s d)) _ (operand_within _ (variable_in a) (spec.code c a s d) (code_within c a s d _)) (refl, tt)
into_within c (LenExpr at a) s d t b = within_append b (unless_read (read a s) (spec.code c a s d)) _ (operand_within _ (read a s) (spec.code c a s d) (code_within c a s d _)) (refl, tt)
into_within c (BinaryExpr at o x y) s d t b =
    let one = first_read o x y s in let two = second_read o y s in let right = spec.code c y s (spec.right_register o d) in
    within_append b (unless_read one (spec.code c x (before y s) d)) _ (operand_within _ one (spec.code c x (before y s) d) (code_within c x (before y s) d _))
    (operate_within o t (standing one d) (standing two (spec.right_register o d)) (unless_read two right) (spec.released (before y s) s) (plain_or_read two (spec.is_plain y)) b
    (λ n. operand_within n two right (code_within c y s (spec.right_register o d) n)) (λ n. released_within n (before y s) s))
into_within c (IsExpr at a ty) s d t b = code_within c (IsExpr at a ty) s d b
into_within c (IndexExpr at x y) s d t b =
    within_append b (unless_read (read x s) (spec.code c x (before y s) d)) _ (operand_within _ (read x s) (spec.code c x (before y s) d) (code_within c x (before y s) d _))
    (within_append b (unless_read (variable_in y) (spec.code c y s (suc d))) _ (operand_within _ (variable_in y) (spec.code c y s (suc d)) (code_within c y s (suc d) _)) (refl, tt))
into_within c (FieldExpr at a name) s d t b = within_append b (unless_read (read a s) (spec.code c a s d)) _ (operand_within _ (read a s) (spec.code c a s d) (code_within c a s d _)) (refl, tt)
into_within c (ListExpr at items) s d t b = code_within c (ListExpr at items) s d b
into_within c (RepeatExpr at x y) s d t b = code_within c (RepeatExpr at x y) s d b
into_within c (RecordExpr at fs) s d t b = code_within c (RecordExpr at fs) s d b
into_within c (QuantExpr at all x from to body) s d t b = code_within c (QuantExpr at all x from to body) s d b
