-- What is said of the parts of a statement: of its values, of its arguments, of its clauses, of its types, and of the names in its paths; and how many ticks a statement may spend before an instruction.
use Rattle.std.specs.Prelude.{ℕ, ◌+◌, List, [], ◌∷◌, Option, Some, None}
use Rattle.wy_core.specs.Types.{Ty}
use Rattle.wy_core.specs.CoreTree.{Expr, Exprs, Step, IndexStep, FieldStep, Stmt, DeclareStmt, AssignStmt, CallStmt, ReturnStmt, AssertStmt, BreakStmt, ContinueStmt, SkipStmt, FailStmt, IfStmt, WhileStmt, Stmts, NoStmts, MoreStmts}
use Rattle.wy_core.specs.formed.Sizes.{size, sizes}
use Rattle.wy_core.specs.formed.Wholes.{EachClause, EachOption}

-- what is asked of each part
pub record Asked : Type 1 where
  pub value : Expr ℕ → Type 0
  pub values : Exprs ℕ → Type 0
  pub clause : Expr ℕ → Type 0
  pub ty : Ty → Type 0
  pub name : List ℕ → Type 0

abbrev pub EachStep : Asked → List (Step ℕ) → Type 0
EachStep q [] = Unit {0}
EachStep q (IndexStep at e ∷ path) = q.value e × EachStep q path
EachStep q (FieldStep at name ∷ path) = q.name name × EachStep q path

abbrev mutual
  -- each part of the statement is such
  pub EachPart : Asked → Stmt ℕ → Type 0
  EachPart q (DeclareStmt at t x value) = q.ty t × EachOption q.value value
  EachPart q (AssignStmt at x path e) = EachStep q path × q.value e
  EachPart q (CallStmt at f es) = q.values es
  EachPart q (ReturnStmt at value) = EachOption q.value value
  EachPart q (AssertStmt at e) = q.clause e
  EachPart q (BreakStmt at) = Unit {0}
  EachPart q (ContinueStmt at) = Unit {0}
  EachPart q (SkipStmt at) = Unit {0}
  EachPart q (FailStmt at) = Unit {0}
  EachPart q (IfStmt at e first second) = q.value e × EachPartIn q first × EachPartIn q second
  EachPart q (WhileStmt at e invariants body) = q.value e × EachClause q.clause invariants × EachPartIn q body

  pub EachPartIn : Asked → Stmts ℕ → Type 0
  EachPartIn q NoStmts = Unit {0}
  EachPartIn q (MoreStmts st rest) = EachPart q st × EachPartIn q rest

-- ---- ticks

abbrev pub option_cost : Option (Expr ℕ) → ℕ
option_cost None = 0
option_cost (Some e) = size e

abbrev pub path_cost : List (Step ℕ) → ℕ
path_cost [] = 0
path_cost (IndexStep at e ∷ path) = size e + path_cost path
path_cost (FieldStep at name ∷ path) = path_cost path

abbrev mutual
  -- the nodes of a statement; a loop has a tick of its own, and each of its turns has one
  pub cost : Stmt ℕ → ℕ
  cost (DeclareStmt at t x value) = option_cost value + 1
  cost (AssignStmt at x path e) = (path_cost path + size e) + 1
  cost (CallStmt at f es) = sizes es + 1
  cost (ReturnStmt at value) = option_cost value + 1
  cost (AssertStmt at e) = 1
  cost (BreakStmt at) = 1
  cost (ContinueStmt at) = 1
  cost (SkipStmt at) = 1
  cost (FailStmt at) = 1
  cost (IfStmt at e first second) = (size e + (cost_all first + cost_all second)) + 1
  cost (WhileStmt at e invariants body) = (size e + cost_all body) + 2

  pub cost_all : Stmts ℕ → ℕ
  cost_all NoStmts = 0
  cost_all (MoreStmts st rest) = cost st + cost_all rest
