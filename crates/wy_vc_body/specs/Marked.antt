-- Marks for the variables that statements assign, one statement after the other.
use Rattle.std.specs.Prelude.{ℕ, List, Bool, true, Option, Some, None}
use Rattle.wy_vc_exprs.specs.wy_vc_spec.Spots.{mark}
use Rattle.wy_core.specs.CoreTree.{Stmt, DeclareStmt, AssignStmt, CallStmt, ReturnStmt, AssertStmt, BreakStmt, ContinueStmt, SkipStmt, FailStmt, IfStmt, WhileStmt, Stmts, NoStmts, MoreStmts}

-- a variable with a value is marked
abbrev pub marked_value : {X : Type 0} → ℕ → Option X → List Bool → List Bool
marked_value y None marks = marks
marked_value y (Some e) marks = mark marks y true

abbrev mutual
  -- these marks, and those of the variables that the statement assigns
  pub marked_by : {N : Type 0} → Stmt N → List Bool → List Bool
  marked_by (DeclareStmt at t y None) marks = marks
  marked_by (DeclareStmt at t y (Some e)) marks = mark marks y true
  marked_by (AssignStmt at y path e) marks = mark marks y true
  marked_by (CallStmt at f es) marks = marks
  marked_by (ReturnStmt at value) marks = marks
  marked_by (AssertStmt at e) marks = marks
  marked_by (BreakStmt at) marks = marks
  marked_by (ContinueStmt at) marks = marks
  marked_by (SkipStmt at) marks = marks
  marked_by (FailStmt at) marks = marks
  marked_by (IfStmt at e first second) marks = marked_in second (marked_in first marks)
  marked_by (WhileStmt at e invariants body) marks = marked_in body marks

  pub marked_in : {N : Type 0} → Stmts N → List Bool → List Bool
  marked_in NoStmts marks = marks
  marked_in (MoreStmts first rest) marks = marked_in rest (marked_by first marks)
