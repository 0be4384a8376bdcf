-- Which variables statements assign.
use Rattle.std.specs.Prelude.{ℕ, suc, Bool, false, ◌||◌, ◌==◌, Some, None}
use Rattle.wy_vc_spec.specs.Joins.{max}
use Rattle.wy_sem.specs.wy_core.CoreTree.{Stmt, DeclareStmt, AssignStmt, CallStmt, ReturnStmt, AssertStmt, BreakStmt, ContinueStmt, SkipStmt, FailStmt, IfStmt, WhileStmt, Stmts, NoStmts, MoreStmts}

abbrev mutual
  -- the statement assigns the variable, whole or in part, or declares it with a value
  pub assigns : {N : Type 0} → ℕ → Stmt N → Bool
  assigns x (DeclareStmt at t y None) = false
  assigns x (DeclareStmt at t y (Some e)) = y == x
  assigns x (AssignStmt at y path e) = y == x
  assigns x (CallStmt at f es) = false
  assigns x (ReturnStmt at value) = false
  assigns x (AssertStmt at e) = false
  assigns x (BreakStmt at) = false
  assigns x (ContinueStmt at) = false
  assigns x (SkipStmt at) = false
  assigns x (FailStmt at) = false
  assigns x (IfStmt at e first second) = assigns_in x first || assigns_in x second
  assigns x (WhileStmt at e invariants body) = assigns_in x body

  pub assigns_in : {N : Type 0} → ℕ → Stmts N → Bool
  assigns_in x NoStmts = false
  assigns_in x (MoreStmts first rest) = assigns x first || assigns_in x rest

-- ---- how many variables there are, by the greatest number that is assigned

abbrev mutual
  pub bound_of : {N : Type 0} → Stmt N → ℕ
  bound_of (DeclareStmt at t y None) = 0
  bound_of (DeclareStmt at t y (Some e)) = suc y
  bound_of (AssignStmt at y path e) = suc y
  bound_of (CallStmt at f es) = 0
  bound_of (ReturnStmt at value) = 0
  bound_of (AssertStmt at e) = 0
  bound_of (BreakStmt at) = 0
  bound_of (ContinueStmt at) = 0
  bound_of (SkipStmt at) = 0
  bound_of (FailStmt at) = 0
  bound_of (IfStmt at e first second) = max (bound_in first) (bound_in second)
  bound_of (WhileStmt at e invariants body) = bound_in body

  pub bound_in : {N : Type 0} → Stmts N → ℕ
  bound_in NoStmts = 0
  bound_in (MoreStmts first rest) = max (bound_of first) (bound_in rest)
