-- The code of small programs, as text.
use Rattle.std.specs.Prelude.{◌≡◌, ℕ, List, [], ◌∷◌, false, Some, None, pos, codes}
use Rattle.wy_core.specs.Types.{NullTy, IntTy, AnyTy, UnionTy, RecordTy, NoFieldTys, MoreFieldTys, NamedTy}
use Rattle.wy_core.specs.CoreTree.{IntExpr, VarExpr, NegExpr, LenExpr, BinaryExpr, IsExpr, IndexExpr, IndexStep, DeclareStmt, AssignStmt, ReturnStmt, IfStmt, WhileStmt, Stmts, NoStmts, MoreStmts, Core, AliasDecl, RoutineDecl}
use Rattle.wy_core.specs.declared.expressions.Op.TheVariants.{Add, Sub, Equal, Less, Greater, And}
use Rattle.wy_code.specs.Listing.{code_text}
use Rattle.wy_code_spec.specs.compiled.Programs.{code_of}

-- a function of these variables, the first of which is its parameter
abbrev pub function : List (List ℕ) → Stmts ℕ → Core ℕ
function variables body = RoutineDecl (record {
  at = 0;
  name = codes "f";
  is_method = false;
  variables = variables;
  params = record { at = 0; ty = AnyTy; variable = 0 } ∷ [];
  result = Some (record { at = 0; ty = AnyTy; variable = None });
  preconditions = [];
  postconditions = [];
  body = body;
}) ∷ []

-- if x < 0: return -x
-- return x
abbrev pub absolute_value : Core ℕ
absolute_value = function (codes "x" ∷ []) (MoreStmts (IfStmt 0 (BinaryExpr 0 Less (VarExpr 0 0) (IntExpr 0 (pos 0))) (MoreStmts (ReturnStmt 0 (Some (NegExpr 0 (VarExpr 0 0)))) NoStmts) NoStmts) (MoreStmts (ReturnStmt 0 (Some (VarExpr 0 0))) NoStmts))

-- int i = 0
-- while i < |xs|:
--     xs[i] = i
--     i = i + 1
-- return i
abbrev pub counting : Core ℕ
counting = function (codes "xs" ∷ codes "i" ∷ []) (MoreStmts (DeclareStmt 0 IntTy 1 (Some (IntExpr 0 (pos 0))))
    (MoreStmts (WhileStmt 0 (BinaryExpr 0 Less (VarExpr 0 1) (LenExpr 0 (VarExpr 0 0))) []
    (MoreStmts (AssignStmt 0 0 (IndexStep 0 (VarExpr 0 1) ∷ []) (VarExpr 0 1))
    (MoreStmts (AssignStmt 0 1 [] (BinaryExpr 0 Add (VarExpr 0 1) (IntExpr 0 (pos 1)))) NoStmts)))
    (MoreStmts (ReturnStmt 0 (Some (VarExpr 0 1))) NoStmts)))

-- type list is null | {int head, list tail}; return x is list
abbrev pub lists : Core ℕ
lists = AliasDecl (record {
  at = 0;
  name = codes "list";
  variables = [];
  ty_at = 0;
  ty = UnionTy NullTy (RecordTy (MoreFieldTys (codes "head") IntTy (MoreFieldTys (codes "tail") (NamedTy 0) NoFieldTys)));
  variable = None;
  clauses = [];
}) ∷ function (codes "x" ∷ []) (MoreStmts (ReturnStmt 0 (Some (IsExpr 0 (VarExpr 0 0) (NamedTy 0)))) NoStmts)

-- return |xs| > 0 && xs[0] > 0
abbrev pub first_is_positive : Core ℕ
first_is_positive = function (codes "xs" ∷ []) (MoreStmts (ReturnStmt 0 (Some (BinaryExpr 0 And (BinaryExpr 0 Greater (LenExpr 0 (VarExpr 0 0)) (IntExpr 0 (pos 0)))
    (BinaryExpr 0 Greater (IndexExpr 0 (VarExpr 0 0) (IntExpr 0 (pos 0))) (IntExpr 0 (pos 0)))))) NoStmts)

-- return x - -x
abbrev pub doubled : Core ℕ
doubled = function (codes "x" ∷ []) (MoreStmts (ReturnStmt 0 (Some (BinaryExpr 0 Sub (VarExpr 0 0) (NegExpr 0 (VarExpr 0 0))))) NoStmts)

-- int n = xs[0]
-- n = xs[n]
-- return n
abbrev pub places : Core ℕ
places = function (codes "xs" ∷ codes "n" ∷ []) (MoreStmts (DeclareStmt 0 IntTy 1 (Some (IndexExpr 0 (VarExpr 0 0) (IntExpr 0 (pos 0)))))
    (MoreStmts (AssignStmt 0 1 [] (IndexExpr 0 (VarExpr 0 0) (VarExpr 0 1))) (MoreStmts (ReturnStmt 0 (Some (VarExpr 0 1))) NoStmts)))

-- int n = -x
-- x = x
-- n = x
-- return 0
abbrev pub copies : Core ℕ
copies = function (codes "x" ∷ codes "n" ∷ []) (MoreStmts (DeclareStmt 0 IntTy 1 (Some (NegExpr 0 (VarExpr 0 0))))
    (MoreStmts (AssignStmt 0 0 [] (VarExpr 0 0)) (MoreStmts (AssignStmt 0 1 [] (VarExpr 0 0)) (MoreStmts (ReturnStmt 0 (Some (IntExpr 0 (pos 0)))) NoStmts))))

-- if x == x: return x
-- return x == x
abbrev pub itself : Core ℕ
itself = function (codes "x" ∷ []) (MoreStmts (IfStmt 0 (BinaryExpr 0 Equal (VarExpr 0 0) (VarExpr 0 0)) (MoreStmts (ReturnStmt 0 (Some (VarExpr 0 0))) NoStmts) NoStmts)
    (MoreStmts (ReturnStmt 0 (Some (BinaryExpr 0 Equal (VarExpr 0 0) (VarExpr 0 0)))) NoStmts))

-- if x is int: return x
-- if x is any: return x
-- return x
abbrev pub asked : Core ℕ
asked =
    let given = MoreStmts (ReturnStmt 0 (Some (VarExpr 0 0))) NoStmts in
    function (codes "x" ∷ []) (MoreStmts (IfStmt 0 (IsExpr 0 (VarExpr 0 0) IntTy) given NoStmts) (MoreStmts (IfStmt 0 (IsExpr 0 (VarExpr 0 0) AnyTy) given NoStmts) given))

pub record ProgramsHave : Type 0 where
  -- a number is compared and negated in the register of its variable, at a last use too
  pub absolute : code_text (code_of absolute_value) ≡
      codes "routine 0\n  Const r2 0\n  Compare r1 < r0 r2\n  Branch r1 6\n  Const r2 0\n  Arith r1 - r2 r0\n  Return r1\n  Move r1 r0\n  Return r1\n  Const r1 null\n  Return r1\n"
  -- the counter and the array are read in their registers, as a place of the array too; the array is updated in place, and released behind the loop; what the counter is set to comes straight into its register
  pub a_loop : code_text (code_of counting) ≡
      codes "routine 0\n  Const r1 0\n  Len r3 r0\n  Compare r2 < r1 r3\n  Branch r2 9\n  Share r3 r1\n  Put r0 [[r1]] r3\n  Const r3 1\n  Arith r1 + r1 r3\n  Jump 1\n  Clear [r0]\n  Move r2 r1\n  Return r2\n  Const r2 null\n  Return r2\n"
  -- a part of an array that is live behind comes straight into its variable; where the array is read for the last time it is moved, and the part takes its place
  pub a_part : code_text (code_of places) ≡
      codes "routine 0\n  Const r3 0\n  Get r1 r0 r3\n  Move r2 r0\n  Get r2 r2 r1\n  Move r1 r2\n  Move r2 r1\n  Return r2\n  Const r2 null\n  Return r2\n"
  -- a variable that isn't live behind gets no value: what was evaluated is released where it may be a list or a record
  pub a_copy : code_text (code_of copies) ≡
      codes "routine 0\n  Const r3 0\n  Arith r2 - r3 r0\n  Move r0 r0\n  Move r2 r0\n  Clear [r2]\n  Const r2 0\n  Return r2\n  Const r2 null\n  Return r2\n"
  -- the array is read for its length while it is live; it is moved where the right side is evaluated, and released behind it, where it may have been left out
  pub a_choice : code_text (code_of first_is_positive) ≡
      codes "routine 0\n  Len r1 r0\n  Const r2 0\n  Compare r1 > r1 r2\n  Branch r1 9\n  Move r1 r0\n  Const r2 0\n  Get r1 r1 r2\n  Const r2 0\n  Compare r1 > r1 r2\n  Clear [r0]\n  Return r1\n  Const r1 null\n  Return r1\n"
  -- the first operand isn't live behind, and what is evaluated behind it might give it up, so it is shared
  pub a_difference : code_text (code_of doubled) ≡
      codes "routine 0\n  Share r1 r0\n  Const r3 0\n  Arith r2 - r3 r0\n  Arith r1 - r1 r2\n  Return r1\n  Const r1 null\n  Return r1\n"
  -- values of any kind are read in their registers while they are live behind; at the last use they are moved, and released
  pub an_equality : code_text (code_of itself) ≡
      codes "routine 0\n  Equal r1 r0 r0\n  Branch r1 4\n  Move r1 r0\n  Return r1\n  Share r1 r0\n  Move r2 r0\n  Equal r1 r1 r2\n  Clear [r2]\n  Return r1\n  Const r1 null\n  Return r1\n"
  -- a variable that is live behind a test is tested in its register; where the test doesn't read it, it is shared as each other value, and released
  pub a_test : code_text (code_of asked) ≡
      codes "routine 0\n  Kind r2 r0 int\n  Move r1 r2\n  Branch r1 5\n  Move r1 r0\n  Return r1\n  Share r1 r0\n  Const r2 true\n  Move r3 r1\n  Clear [r3]\n  Move r1 r2\n  Branch r1 13\n  Move r1 r0\n  Return r1\n  Move r1 r0\n  Return r1\n  Const r1 null\n  Return r1\n"
  -- the value goes to the routine of the type, which asks for null, then for the shape, and then each field in order
  pub a_type : code_text (code_of lists) ≡
      codes "routine 0\n  Move r1 r0\n  Share r3 r1\n  Call r2 1 [r3]\n  Move r3 r1\n  Clear [r3]\n  Move r1 r2\n  Return r1\n  Const r1 null\n  Return r1\nroutine 1\n  Kind r1 r0 null\n  Branch r1 3\n  Jump 15\n  Kind r1 r0 shape 0\n  Branch r1 15\n  Field r2 r0 0\n  Kind r1 r2 int\n  Move r3 r2\n  Clear [r3]\n  Branch r1 15\n  Field r2 r0 1\n  Share r3 r2\n  Call r1 1 [r3]\n  Move r3 r2\n  Clear [r3]\n  Move r2 r0\n  Clear [r2]\n  Return r1\n"
