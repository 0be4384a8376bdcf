-- The variables that statements assign.
use Rattle.std.proofs.Common.{◌≡◌, ℕ, List, [], Bool, ◌||◌, Some, None, length, ◌∙◌, ap}
use Rattle.wy_core.specs.CoreTree.{Stmt, DeclareStmt, AssignStmt, CallStmt, ReturnStmt, AssertStmt, BreakStmt, ContinueStmt, SkipStmt, FailStmt, IfStmt, WhileStmt, Stmts, NoStmts, MoreStmts}
use Rattle.wy_vc_exprs.specs.wy_vc_spec.Assigned.{assigns, assigns_in, bound_of, bound_in}
use Rattle.wy_vc_exprs.specs.wy_vc_spec.Joins.{max}
use Rattle.wy_vc_exprs.specs.wy_vc_spec.Spots.{is_set}
use Rattle.wy_lemmas.proofs.Choices.{or_not as or_false, or_assoc}
use Rattle.wy_vc_body.specs.Marked.{marked_by, marked_in}
use Rattle.wy_vc_body.proofs.MarkLemmas.{set_marked, max_zero, max_assoc, count_marked}

mutual
  each_by : {N : Type 0} (s : Stmt N) (ms : List Bool) (x : ℕ) → is_set (marked_by s ms) x ≡ (is_set ms x || assigns x s)
  each_by (DeclareStmt at t y None) ms x = or_false (is_set ms x)
  each_by (DeclareStmt at t y (Some e)) ms x = set_marked ms y x
  each_by (AssignStmt at y path e) ms x = set_marked ms y x
  each_by (CallStmt at f es) ms x = or_false (is_set ms x)
  each_by (ReturnStmt at value) ms x = or_false (is_set ms x)
  each_by (AssertStmt at e) ms x = or_false (is_set ms x)
  each_by (BreakStmt at) ms x = or_false (is_set ms x)
  each_by (ContinueStmt at) ms x = or_false (is_set ms x)
  each_by (SkipStmt at) ms x = or_false (is_set ms x)
  each_by (FailStmt at) ms x = or_false (is_set ms x)
  each_by (IfStmt at e first second) ms x =
      each_in second (marked_in first ms) x ∙ ap (λ b. b || assigns_in x second) (each_in first ms x) ∙ or_assoc (is_set ms x) (assigns_in x first) (assigns_in x second)
  each_by (WhileStmt at e invariants body) ms x = each_in body ms x

  each_in : {N : Type 0} (ss : Stmts N) (ms : List Bool) (x : ℕ) → is_set (marked_in ss ms) x ≡ (is_set ms x || assigns_in x ss)
  each_in NoStmts ms x = or_false (is_set ms x)
  each_in (MoreStmts first rest) ms x =
      each_in rest (marked_by first ms) x ∙ ap (λ b. b || assigns_in x rest) (each_by first ms x) ∙ or_assoc (is_set ms x) (assigns x first) (assigns_in x rest)

-- each that is assigned, and no other
pub marked_each : {N : Type 0} (ss : Stmts N) (x : ℕ) → is_set (marked_in ss []) x ≡ assigns_in x ss
marked_each ss x = each_in ss [] x

mutual
  count_by : {N : Type 0} (s : Stmt N) (ms : List Bool) → length (marked_by s ms) ≡ max (length ms) (bound_of s)
  count_by (DeclareStmt at t y None) ms = max_zero (length ms)
  count_by (DeclareStmt at t y (Some e)) ms = count_marked ms y _
  count_by (AssignStmt at y path e) ms = count_marked ms y _
  count_by (CallStmt at f es) ms = max_zero (length ms)
  count_by (ReturnStmt at value) ms = max_zero (length ms)
  count_by (AssertStmt at e) ms = max_zero (length ms)
  count_by (BreakStmt at) ms = max_zero (length ms)
  count_by (ContinueStmt at) ms = max_zero (length ms)
  count_by (SkipStmt at) ms = max_zero (length ms)
  count_by (FailStmt at) ms = max_zero (length ms)
  count_by (IfStmt at e first second) ms =
      count_in second (marked_in first ms) ∙ ap (λ n. max n (bound_in second)) (count_in first ms) ∙ max_assoc (length ms) (bound_in first) (bound_in second)
  count_by (WhileStmt at e invariants body) ms = count_in body ms

  count_in : {N : Type 0} (ss : Stmts N) (ms : List Bool) → length (marked_in ss ms) ≡ max (length ms) (bound_in ss)
  count_in NoStmts ms = max_zero (length ms)
  count_in (MoreStmts first rest) ms =
      count_in rest (marked_by first ms) ∙ ap (λ n. max n (bound_in rest)) (count_by first ms) ∙ max_assoc (length ms) (bound_of first) (bound_in rest)

-- as many as the greatest asks for
pub marked_count : {N : Type 0} (ss : Stmts N) → length (marked_in ss []) ≡ bound_in ss
marked_count ss = count_in ss []
