-- The names of fields and the shapes of records in a program, and their numbers.
use Rattle.std.specs.Prelude.{ℕ, zero, suc, ◌+◌, List, [], ◌∷◌, ◌++◌, length, map, Bool, true, false, ◌||◌, cond, Option, Some, None, is_some, bytes_eq}
use Rattle.wy_core.specs.Types.{Ty, NullTy, BoolTy, IntTy, AnyTy, VoidTy, RecordTy, ArrayTy, UnionTy, InterTy, NotTy, NamedTy, NormalTy, FieldTys, NoFieldTys, MoreFieldTys}
use Rattle.wy_core.specs.CoreTree as tree
use Rattle.wy_core.specs.CoreTree.{Expr, NullExpr, BoolExpr, IntExpr, VarExpr, CallExpr, NegExpr, NotExpr, LenExpr, BinaryExpr, IsExpr, IndexExpr, FieldExpr, ListExpr, RepeatExpr, RecordExpr, QuantExpr, Exprs, NoExprs, MoreExprs, Fields, NoFields, MoreFields, Step, IndexStep, FieldStep, Stmt, DeclareStmt, AssignStmt, CallStmt, ReturnStmt, AssertStmt, BreakStmt, ContinueStmt, SkipStmt, FailStmt, IfStmt, WhileStmt, Stmts, NoStmts, MoreStmts, Decl, AliasDecl, RoutineDecl, Core, routines_of}
use Rattle.wy_value.specs.declared.shapes.Shapes.{Shapes}
use Rattle.wy_code_spec.specs.declared.tables.context.Context.{Context}
use Rattle.wy_code_spec.specs.declared.tables.targets.Target.{Target}
use Rattle.wy_code_spec.specs.declared.tables.targets.Target.TheVariants.{Declared, Prints, PrintsInt, Nothing}

-- ---- lists of which none stands twice

abbrev pub stands : List ℕ → List (List ℕ) → Bool
stands n [] = false
stands n (m ∷ ms) = bytes_eq m n || stands n ms

-- one more, where it doesn't stand there yet
abbrev pub with_one : List (List ℕ) → List ℕ → List (List ℕ)
with_one all n = cond (stands n all) all (all ++ n ∷ [])

-- where it stands, and the length of the list where it doesn't
abbrev pub number_of : List ℕ → List (List ℕ) → ℕ
number_of n [] = 0
number_of n (m ∷ ms) = cond (bytes_eq m n) 0 (suc (number_of n ms))

-- ---- names and shapes, in the order in which they are met

-- the names of fields, and the shapes, each as the numbers of its names
abbrev pub Table : Type 0
Table = Shapes

abbrev pub with_name : List ℕ → Table → Table
with_name n t = record t { names = with_one t.names n }

abbrev pub with_names : List (List ℕ) → Table → Table
with_names [] t = t
with_names (n ∷ ns) t = with_names ns (with_name n t)

abbrev pub numbers_of : List (List ℕ) → List (List ℕ) → List ℕ
numbers_of names [] = []
numbers_of names (n ∷ ns) = number_of n names ∷ numbers_of names ns

-- a shape by the names of its fields
abbrev pub with_shape : List (List ℕ) → Table → Table
with_shape ns t = let u = with_names ns t in record u { lists = with_one u.lists (numbers_of u.names ns) }

abbrev pub names_in : {N : Type 0} → Fields N → List (List ℕ)
names_in NoFields = []
names_in (MoreFields name e fs) = name ∷ names_in fs

abbrev pub ty_names_in : FieldTys → List (List ℕ)
ty_names_in NoFieldTys = []
ty_names_in (MoreFieldTys name t fs) = name ∷ ty_names_in fs

abbrev mutual
  -- those of a type
  pub ty_table : Ty → Table → Table
  ty_table NullTy t = t
  ty_table BoolTy t = t
  ty_table IntTy t = t
  ty_table AnyTy t = t
  ty_table VoidTy t = t
  ty_table (RecordTy fs) t = with_shape (ty_names_in fs) (field_tys_table fs t)
  ty_table (ArrayTy a) t = ty_table a t
  ty_table (UnionTy a b) t = ty_table b (ty_table a t)
  ty_table (InterTy a b) t = ty_table b (ty_table a t)
  ty_table (NotTy a) t = ty_table a t
  ty_table (NamedTy n) t = t
  ty_table (NormalTy cs) t = t

  pub field_tys_table : FieldTys → Table → Table
  field_tys_table NoFieldTys t = t
  field_tys_table (MoreFieldTys name a fs) t = field_tys_table fs (ty_table a t)

abbrev pub record_table : FieldTys → Table → Table
record_table fs t = with_shape (ty_names_in fs) (field_tys_table fs t)

abbrev mutual
  -- those of an expression
  pub expr_table : Expr ℕ → Table → Table
  expr_table (NullExpr at) t = t
  expr_table (BoolExpr at truth) t = t
  expr_table (IntExpr at number) t = t
  expr_table (VarExpr at x) t = t
  expr_table (CallExpr at routine args) t = exprs_table args t
  expr_table (NegExpr at a) t = expr_table a t
  expr_table (NotExpr at a) t = expr_table a t
  expr_table (LenExpr at a) t = expr_table a t
  expr_table (BinaryExpr at op a b) t = expr_table b (expr_table a t)
  expr_table (IsExpr at a ty) t = ty_table ty (expr_table a t)
  expr_table (IndexExpr at a b) t = expr_table b (expr_table a t)
  expr_table (FieldExpr at a name) t = with_name name (expr_table a t)
  expr_table (ListExpr at items) t = exprs_table items t
  expr_table (RepeatExpr at a b) t = expr_table b (expr_table a t)
  expr_table (RecordExpr at fs) t = with_shape (names_in fs) (fields_table fs t)
  expr_table (QuantExpr at all x a b body) t = expr_table body (expr_table b (expr_table a t))

  pub exprs_table : Exprs ℕ → Table → Table
  exprs_table NoExprs t = t
  exprs_table (MoreExprs e es) t = exprs_table es (expr_table e t)

  pub fields_table : Fields ℕ → Table → Table
  fields_table NoFields t = t
  fields_table (MoreFields name e fs) t = fields_table fs (expr_table e t)

-- those of the values of a record, and its shape
abbrev pub fields_shape : Fields ℕ → Table → Table
fields_shape fs t = with_shape (names_in fs) (fields_table fs t)

abbrev pub option_table : Option (Expr ℕ) → Table → Table
option_table None t = t
option_table (Some e) t = expr_table e t

abbrev pub path_table : List (Step ℕ) → Table → Table
path_table [] t = t
path_table (IndexStep at e ∷ steps) t = path_table steps (expr_table e t)
path_table (FieldStep at name ∷ steps) t = path_table steps (with_name name t)

abbrev mutual
  -- those of a statement; an `assert` and invariants have no code
  pub stmt_table : Stmt ℕ → Table → Table
  stmt_table (DeclareStmt at ty x value) t = option_table value t
  stmt_table (AssignStmt at x path e) t = expr_table e (path_table path t)
  stmt_table (CallStmt at routine args) t = exprs_table args t
  stmt_table (ReturnStmt at value) t = option_table value t
  stmt_table (AssertStmt at e) t = t
  stmt_table (BreakStmt at) t = t
  stmt_table (ContinueStmt at) t = t
  stmt_table (SkipStmt at) t = t
  stmt_table (FailStmt at) t = t
  stmt_table (IfStmt at e first second) t = stmts_table second (stmts_table first (expr_table e t))
  stmt_table (WhileStmt at e invariants body) t = stmts_table body (expr_table e t)

  pub stmts_table : Stmts ℕ → Table → Table
  stmts_table NoStmts t = t
  stmts_table (MoreStmts st rest) t = stmts_table rest (stmt_table st t)

abbrev pub decl_table : Decl ℕ → Table → Table
decl_table (AliasDecl a) t = exprs_table (tree.exprs_of a.clauses) (ty_table a.ty t)
decl_table (RoutineDecl r) t = stmts_table r.body t

abbrev pub decls_table : Core ℕ → Table → Table
decls_table [] t = t
decls_table (d ∷ ds) t = decls_table ds (decl_table d t)

abbrev pub table_of : Core ℕ → Table
table_of core = decls_table core (record { names = []; lists = [] })

-- the number of a shape by the names of its fields
abbrev pub shape_number : Table → List (List ℕ) → ℕ
shape_number t ns = number_of (numbers_of t.names ns) t.lists

-- ---- what code is made by: the table, and for each function and method whether it gives a result; the routines of types follow theirs

abbrev pub results_of : List (tree.Routine ℕ) → List Bool
results_of [] = []
results_of (r ∷ rs) = is_some r.result ∷ results_of rs

abbrev pub context_of : Core ℕ → Context
context_of core = record { table = table_of core; results = results_of (routines_of core) }

-- what a number calls
abbrev pub target : List Bool → ℕ → Target
target [] zero = Prints
target [] (suc zero) = PrintsInt
target [] (suc (suc n)) = Nothing
target (gives ∷ rest) zero = Declared gives
target (gives ∷ rest) (suc n) = target rest n
