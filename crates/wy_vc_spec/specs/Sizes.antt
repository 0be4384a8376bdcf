-- How many expressions there are.
use Rattle.std.specs.Prelude.{ℕ, ◌+◌, List, [], ◌∷◌, Option, Some, None}
use Rattle.wy_sem.specs.wy_core.CoreTree.{Expr, NullExpr, BoolExpr, IntExpr, VarExpr, CallExpr, NegExpr, NotExpr, LenExpr, BinaryExpr, IsExpr, IndexExpr, FieldExpr, ListExpr, RepeatExpr, RecordExpr, QuantExpr, Exprs, NoExprs, MoreExprs, Fields, NoFields, MoreFields, Step, IndexStep, FieldStep, Stmt, DeclareStmt, AssignStmt, CallStmt, ReturnStmt, AssertStmt, BreakStmt, ContinueStmt, SkipStmt, FailStmt, IfStmt, WhileStmt, Stmts, NoStmts, MoreStmts}

abbrev mutual
  -- in an expression, with itself
  pub exprs_in : {N : Type 0} → Expr N → ℕ
  exprs_in (NullExpr n) = 1
  exprs_in (BoolExpr n truth) = 1
  exprs_in (IntExpr n number) = 1
  exprs_in (VarExpr n x) = 1
  exprs_in (CallExpr n routine args) = 1 + exprs_in_all args
  exprs_in (NegExpr n a) = 1 + exprs_in a
  exprs_in (NotExpr n a) = 1 + exprs_in a
  exprs_in (LenExpr n a) = 1 + exprs_in a
  exprs_in (BinaryExpr n op a b) = 1 + exprs_in a + exprs_in b
  exprs_in (IsExpr n a ty) = 1 + exprs_in a
  exprs_in (IndexExpr n a b) = 1 + exprs_in a + exprs_in b
  exprs_in (FieldExpr n a name) = 1 + exprs_in a
  exprs_in (ListExpr n items) = 1 + exprs_in_all items
  exprs_in (RepeatExpr n a b) = 1 + exprs_in a + exprs_in b
  exprs_in (RecordExpr n fields) = 1 + exprs_in_fields fields
  exprs_in (QuantExpr n all x a b body) = 1 + exprs_in a + exprs_in b + exprs_in body

  -- in expressions
  pub exprs_in_all : {N : Type 0} → Exprs N → ℕ
  exprs_in_all NoExprs = 0
  exprs_in_all (MoreExprs e es) = exprs_in e + exprs_in_all es

  -- in the fields of a record
  pub exprs_in_fields : {N : Type 0} → Fields N → ℕ
  exprs_in_fields NoFields = 0
  exprs_in_fields (MoreFields name e fs) = exprs_in e + exprs_in_fields fs

-- in a list of expressions
abbrev pub exprs_in_list : {N : Type 0} → List (Expr N) → ℕ
exprs_in_list [] = 0
exprs_in_list (e ∷ es) = exprs_in e + exprs_in_list es

-- in an expression that may be absent
abbrev pub exprs_in_option : {N : Type 0} → Option (Expr N) → ℕ
exprs_in_option None = 0
exprs_in_option (Some e) = exprs_in e

-- in a step of a path
abbrev pub exprs_in_step : {N : Type 0} → Step N → ℕ
exprs_in_step (IndexStep at e) = exprs_in e
exprs_in_step (FieldStep at name) = 0

-- in the indices of a path
abbrev pub exprs_in_path : {N : Type 0} → List (Step N) → ℕ
exprs_in_path [] = 0
exprs_in_path (step ∷ steps) = exprs_in_step step + exprs_in_path steps

abbrev mutual
  -- in a statement
  pub exprs_in_stmt : {N : Type 0} → Stmt N → ℕ
  exprs_in_stmt (DeclareStmt at ty x value) = exprs_in_option value
  exprs_in_stmt (AssignStmt at x path value) = exprs_in_path path + exprs_in value
  exprs_in_stmt (CallStmt at routine args) = exprs_in_all args
  exprs_in_stmt (ReturnStmt at value) = exprs_in_option value
  exprs_in_stmt (AssertStmt at e) = exprs_in e
  exprs_in_stmt (BreakStmt at) = 0
  exprs_in_stmt (ContinueStmt at) = 0
  exprs_in_stmt (SkipStmt at) = 0
  exprs_in_stmt (FailStmt at) = 0
  exprs_in_stmt (IfStmt at e first second) = exprs_in e + exprs_in_block first + exprs_in_block second
  exprs_in_stmt (WhileStmt at e invariants body) = exprs_in e + exprs_in_list invariants + exprs_in_block body

  -- in a block
  pub exprs_in_block : {N : Type 0} → Stmts N → ℕ
  exprs_in_block NoStmts = 0
  exprs_in_block (MoreStmts first rest) = exprs_in_stmt first + exprs_in_block rest
