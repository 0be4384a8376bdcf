-- What holds of statements whose expressions have numbers as of those that have none.
use Rattle.std.proofs.Common.{◌≡◌, ℕ, ◌+◌, List, ◌||◌, Some, None, refl, ◌∙◌, ap}
use Rattle.wy_core.specs.Types.{Ty}
use Rattle.wy_core.specs.CoreTree.{Stmt, DeclareStmt, AssignStmt, CallStmt, ReturnStmt, AssertStmt, BreakStmt, ContinueStmt, SkipStmt, FailStmt, IfStmt, WhileStmt, Stmts, NoStmts, MoreStmts, Routine}
use Rattle.wy_sem.specs.Evaluation.{declared_in, declared_in_all, types_of, param_types, any_types}
use Rattle.wy_vc_exprs.specs.wy_vc_spec.Assigned.{assigns, assigns_in, bound_of, bound_in}
use Rattle.wy_vc_exprs.specs.wy_vc_spec.Joins.{max}
use Rattle.wy_vc_exprs.specs.wy_vc_spec.Numbered.{numbered_stmt, numbered_block, numbered_routine}
use Rattle.wy_vc_exprs.specs.wy_vc_spec.Sizes.{exprs_in, exprs_in_list, exprs_in_stmt, exprs_in_block}

mutual
  assigns_one : (s : Stmt ℕ) (k x : ℕ) → assigns x (numbered_stmt s k) ≡ assigns x s
  assigns_one (DeclareStmt at t y None) k x = refl
  assigns_one (DeclareStmt at t y (Some e)) k x = refl
  assigns_one (AssignStmt at y path e) k x = refl
  assigns_one (CallStmt at f es) k x = refl
  assigns_one (ReturnStmt at value) k x = refl
  assigns_one (AssertStmt at e) k x = refl
  assigns_one (BreakStmt at) k x = refl
  assigns_one (ContinueStmt at) k x = refl
  assigns_one (SkipStmt at) k x = refl
  assigns_one (FailStmt at) k x = refl
  assigns_one (IfStmt at e first second) k x =
      ap (λ b. b || assigns_in x (numbered_block second (k + exprs_in e + exprs_in_block first))) (numbered_assigns first (k + exprs_in e) x)
      ∙ ap (λ b. assigns_in x first || b) (numbered_assigns second (k + exprs_in e + exprs_in_block first) x)
  assigns_one (WhileStmt at e invariants body) k x = numbered_assigns body (k + exprs_in e + exprs_in_list invariants) x

  pub numbered_assigns : (ss : Stmts ℕ) (k x : ℕ) → assigns_in x (numbered_block ss k) ≡ assigns_in x ss
  numbered_assigns NoStmts k x = refl
  numbered_assigns (MoreStmts first rest) k x =
      ap (λ b. b || assigns_in x (numbered_block rest (k + exprs_in_stmt first))) (assigns_one first k x)
      ∙ ap (λ b. assigns x first || b) (numbered_assigns rest (k + exprs_in_stmt first) x)

mutual
  bound_one : (s : Stmt ℕ) (k : ℕ) → bound_of (numbered_stmt s k) ≡ bound_of s
  bound_one (DeclareStmt at t y None) k = refl
  bound_one (DeclareStmt at t y (Some e)) k = refl
  bound_one (AssignStmt at y path e) k = refl
  bound_one (CallStmt at f es) k = refl
  bound_one (ReturnStmt at value) k = refl
  bound_one (AssertStmt at e) k = refl
  bound_one (BreakStmt at) k = refl
  bound_one (ContinueStmt at) k = refl
  bound_one (SkipStmt at) k = refl
  bound_one (FailStmt at) k = refl
  bound_one (IfStmt at e first second) k =
      ap (λ n. max n (bound_in (numbered_block second (k + exprs_in e + exprs_in_block first)))) (numbered_bound first (k + exprs_in e))
      ∙ ap (λ n. max (bound_in first) n) (numbered_bound second (k + exprs_in e + exprs_in_block first))
  bound_one (WhileStmt at e invariants body) k = numbered_bound body (k + exprs_in e + exprs_in_list invariants)

  pub numbered_bound : (ss : Stmts ℕ) (k : ℕ) → bound_in (numbered_block ss k) ≡ bound_in ss
  numbered_bound NoStmts k = refl
  numbered_bound (MoreStmts first rest) k =
      ap (λ n. max n (bound_in (numbered_block rest (k + exprs_in_stmt first)))) (bound_one first k) ∙ ap (λ n. max (bound_of first) n) (numbered_bound rest (k + exprs_in_stmt first))

mutual
  declared_one : (s : Stmt ℕ) (k : ℕ) (ts : List Ty) → declared_in (numbered_stmt s k) ts ≡ declared_in s ts
  declared_one (DeclareStmt at t y None) k ts = refl
  declared_one (DeclareStmt at t y (Some e)) k ts = refl
  declared_one (AssignStmt at y path e) k ts = refl
  declared_one (CallStmt at f es) k ts = refl
  declared_one (ReturnStmt at value) k ts = refl
  declared_one (AssertStmt at e) k ts = refl
  declared_one (BreakStmt at) k ts = refl
  declared_one (ContinueStmt at) k ts = refl
  declared_one (SkipStmt at) k ts = refl
  declared_one (FailStmt at) k ts = refl
  declared_one (IfStmt at e first second) k ts =
      ap (λ us. declared_in_all (numbered_block second (k + exprs_in e + exprs_in_block first)) us) (declared_all first (k + exprs_in e) ts)
      ∙ declared_all second (k + exprs_in e + exprs_in_block first) (declared_in_all first ts)
  declared_one (WhileStmt at e invariants body) k ts = declared_all body (k + exprs_in e + exprs_in_list invariants) ts

  declared_all : (ss : Stmts ℕ) (k : ℕ) (ts : List Ty) → declared_in_all (numbered_block ss k) ts ≡ declared_in_all ss ts
  declared_all NoStmts k ts = refl
  declared_all (MoreStmts first rest) k ts =
      ap (λ us. declared_in_all (numbered_block rest (k + exprs_in_stmt first)) us) (declared_one first k ts) ∙ declared_all rest (k + exprs_in_stmt first) (declared_in first ts)

pub numbered_types : (r : Routine ℕ) (k : ℕ) → types_of (numbered_routine r k) ≡ types_of r
numbered_types r k = declared_all r.body (k + exprs_in_list r.preconditions + exprs_in_list r.postconditions) (param_types r.params (any_types r.variables))
