-- The ticks of each construct, where each of its parts is gone through once.
use Rattle.std.specs.Prelude.{ℕ, suc, ◌+◌, List, [], ◌∷◌, length, Option, Some, None}
use Rattle.wy_code.specs.declared.routines.Routine as compiled
use Rattle.wy_core.specs.CoreTree.{Expr, NullExpr, BoolExpr, IntExpr, VarExpr, CallExpr, NegExpr, NotExpr, LenExpr, BinaryExpr, IsExpr, IndexExpr, FieldExpr, ListExpr, RepeatExpr, RecordExpr, QuantExpr, Exprs, NoExprs, MoreExprs, Fields, NoFields, MoreFields, Step, IndexStep, FieldStep, Stmt, DeclareStmt, AssignStmt, CallStmt, ReturnStmt, AssertStmt, BreakStmt, ContinueStmt, SkipStmt, FailStmt, IfStmt, WhileStmt, Stmts, NoStmts, MoreStmts, Alias, Routine, Core, aliases_of, routines_of}
use Rattle.wy_core.specs.Types.{Ty, NullTy, BoolTy, IntTy, AnyTy, VoidTy, RecordTy, ArrayTy, UnionTy, InterTy, NotTy, NamedTy, NormalTy, FieldTys, NoFieldTys, MoreFieldTys}

abbrev mutual
  -- a visit of each type term
  pub visits : Ty → ℕ
  visits NullTy = 1
  visits BoolTy = 1
  visits IntTy = 1
  visits AnyTy = 1
  visits VoidTy = 1
  visits (RecordTy fs) = suc (field_visits fs)
  visits (ArrayTy t) = suc (visits t)
  visits (UnionTy s t) = suc (visits s + visits t)
  visits (InterTy s t) = suc (visits s + visits t)
  visits (NotTy t) = suc (visits t)
  visits (NamedTy n) = 1
  visits (NormalTy union) = 1

  pub field_visits : FieldTys → ℕ
  field_visits NoFieldTys = 0
  field_visits (MoreFieldTys name t fs) = visits t + field_visits fs

abbrev mutual
  -- a tick for each expression, one more for a call, and one for a quantifier's turn
  pub ticks : Expr ℕ → ℕ
  ticks (NullExpr at) = 1
  ticks (BoolExpr at truth) = 1
  ticks (IntExpr at number) = 1
  ticks (VarExpr at x) = 1
  ticks (CallExpr at routine args) = suc (suc (all_ticks args))
  ticks (NegExpr at a) = suc (ticks a)
  ticks (NotExpr at a) = suc (ticks a)
  ticks (LenExpr at a) = suc (ticks a)
  ticks (BinaryExpr at op a b) = suc (ticks a + ticks b)
  ticks (IsExpr at a ty) = suc (ticks a + visits ty)
  ticks (IndexExpr at a b) = suc (ticks a + ticks b)
  ticks (FieldExpr at a name) = suc (ticks a)
  ticks (ListExpr at items) = suc (all_ticks items)
  ticks (RepeatExpr at a b) = suc (ticks a + ticks b)
  ticks (RecordExpr at fs) = suc (field_ticks fs)
  ticks (QuantExpr at all x a b body) = suc (suc (ticks a + (ticks b + ticks body)))

  pub all_ticks : Exprs ℕ → ℕ
  all_ticks NoExprs = 0
  all_ticks (MoreExprs e es) = ticks e + all_ticks es

  pub field_ticks : Fields ℕ → ℕ
  field_ticks NoFields = 0
  field_ticks (MoreFields name e fs) = ticks e + field_ticks fs

abbrev pub option_ticks : Option (Expr ℕ) → ℕ
option_ticks None = 0
option_ticks (Some e) = ticks e

abbrev pub path_ticks : List (Step ℕ) → ℕ
path_ticks [] = 0
path_ticks (IndexStep at e ∷ path) = ticks e + path_ticks path
path_ticks (FieldStep at name ∷ path) = path_ticks path

abbrev mutual
  -- a tick for each statement, one more for a call, and one for a loop's test; clauses of contracts and of loops have none, and neither has what an `assert` says
  pub stmt_ticks : Stmt ℕ → ℕ
  stmt_ticks (DeclareStmt at ty x value) = suc (option_ticks value)
  stmt_ticks (AssignStmt at x path e) = suc (path_ticks path + ticks e)
  stmt_ticks (CallStmt at routine args) = suc (suc (all_ticks args))
  stmt_ticks (ReturnStmt at value) = suc (option_ticks value)
  stmt_ticks (AssertStmt at e) = 1
  stmt_ticks (BreakStmt at) = 1
  stmt_ticks (ContinueStmt at) = 1
  stmt_ticks (SkipStmt at) = 1
  stmt_ticks (FailStmt at) = 1
  stmt_ticks (IfStmt at e first second) = suc (ticks e + (stmts_ticks first + stmts_ticks second))
  stmt_ticks (WhileStmt at e invariants body) = suc (suc (ticks e + stmts_ticks body))

  pub stmts_ticks : Stmts ℕ → ℕ
  stmts_ticks NoStmts = 0
  stmts_ticks (MoreStmts st rest) = stmt_ticks st + stmts_ticks rest

abbrev pub clauses_ticks : List (Expr ℕ) → ℕ
clauses_ticks [] = 0
clauses_ticks (e ∷ es) = ticks e + clauses_ticks es

-- a body, and a test of a declared type: its definition and its clauses
abbrev pub routine_ticks : Routine ℕ → ℕ
routine_ticks r = stmts_ticks r.body

abbrev pub alias_ticks : Alias ℕ → ℕ
alias_ticks a = visits a.ty + clauses_ticks a.clauses

abbrev pub bodies_ticks : List (Routine ℕ) → ℕ
bodies_ticks [] = 0
bodies_ticks (r ∷ rs) = routine_ticks r + bodies_ticks rs

abbrev pub aliases_ticks : List (Alias ℕ) → ℕ
aliases_ticks [] = 0
aliases_ticks (a ∷ more) = alias_ticks a + aliases_ticks more

abbrev pub core_ticks : Core ℕ → ℕ
core_ticks core = bodies_ticks (routines_of core) + aliases_ticks (aliases_of core)

-- how many instructions stand in the routines
abbrev pub instructions : List compiled.Routine → ℕ
instructions [] = 0
instructions (r ∷ rs) = length r.body + instructions rs
