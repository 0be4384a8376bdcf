-- The least place of a use of what may have no value, and the answer.
use Rattle.std.specs.Prelude.{◌≡◌, ◌≢◌, ℕ, Bool, true, false, not, ◌&&◌, ◌||◌, ◌==◌, nat_lt, cond, List, [], ◌∷◌, ◌++◌, Option, Some, None, is_some, Result, Ok, Err}
use Rattle.wy_core.specs.CoreTree as tree
use Rattle.wy_core.specs.CoreTree.{Expr, NullExpr, BoolExpr, IntExpr, VarExpr, CallExpr, NegExpr, NotExpr, LenExpr, BinaryExpr, IsExpr, IndexExpr, FieldExpr, ListExpr, RepeatExpr, RecordExpr, QuantExpr, Exprs, NoExprs, MoreExprs, Fields, NoFields, MoreFields, Step, IndexStep, FieldStep, Stmt, DeclareStmt, AssignStmt, CallStmt, ReturnStmt, AssertStmt, BreakStmt, ContinueStmt, SkipStmt, FailStmt, IfStmt, WhileStmt, Stmts, NoStmts, MoreStmts, Decl, AliasDecl, RoutineDecl, Core}
use Rattle.wy_assign.specs.Assigned.{result_variable}
use Rattle.wy_assign.specs.Marks.{Marks, has, none_set, with_params, with_option}
use Rattle.wy_assign.specs.Flows.{from_here, alone, otherwise, rejoined, head, flow, flow_all, is_open}
use Rattle.wy_assign.specs.declared.fault.AssignFault.{AssignFault}
use Rattle.wy_assign.specs.declared.fault.AssignFault.TheVariants.{Unset, NoReturn, NoMemory}
use Rattle.wy_assign.specs.declared.flow.Flow.{Flow}
use Rattle.wy_assign.specs.declared.flow.Walk.{Walk}

-- the lesser of the place found so far and one more
abbrev pub noted : Option ℕ → ℕ → Option ℕ
noted None at = Some at
noted (Some k) at = Some (cond (nat_lt at k) at k)

-- the same, where it stands
abbrev pub noted_where : Bool → Option ℕ → ℕ → Option ℕ
noted_where stands found at = cond stands (noted found at) found

abbrev pub is_in : List ℕ → ℕ → Bool
is_in [] x = false
is_in (y ∷ ys) x = (x == y) || is_in ys x

-- whether the variable may have no value, where those of the quantifiers around have one
abbrev pub may_be_unset : Marks → List ℕ → ℕ → Bool
may_be_unset s bound x = cond (is_in bound x) false (has s x)

abbrev mutual
  pub expr_faults : Marks → List ℕ → Expr ℕ → Option ℕ → Option ℕ
  expr_faults s bound (NullExpr at) found = found
  expr_faults s bound (BoolExpr at truth) found = found
  expr_faults s bound (IntExpr at number) found = found
  expr_faults s bound (VarExpr at x) found = noted_where (may_be_unset s bound x) found at
  expr_faults s bound (CallExpr at routine args) found = exprs_faults s bound args found
  expr_faults s bound (NegExpr at a) found = expr_faults s bound a found
  expr_faults s bound (NotExpr at a) found = expr_faults s bound a found
  expr_faults s bound (LenExpr at a) found = expr_faults s bound a found
  expr_faults s bound (BinaryExpr at o a b) found = expr_faults s bound b (expr_faults s bound a found)
  expr_faults s bound (IsExpr at a ty) found = expr_faults s bound a found
  expr_faults s bound (IndexExpr at a b) found = expr_faults s bound b (expr_faults s bound a found)
  expr_faults s bound (FieldExpr at a name) found = expr_faults s bound a found
  expr_faults s bound (ListExpr at items) found = exprs_faults s bound items found
  expr_faults s bound (RepeatExpr at a b) found = expr_faults s bound b (expr_faults s bound a found)
  expr_faults s bound (RecordExpr at fs) found = fields_faults s bound fs found
  expr_faults s bound (QuantExpr at all x a b body) found = expr_faults s (bound ++ x ∷ []) body (expr_faults s bound b (expr_faults s bound a found))

  pub exprs_faults : Marks → List ℕ → Exprs ℕ → Option ℕ → Option ℕ
  exprs_faults s bound NoExprs found = found
  exprs_faults s bound (MoreExprs e es) found = exprs_faults s bound es (expr_faults s bound e found)

  pub fields_faults : Marks → List ℕ → Fields ℕ → Option ℕ → Option ℕ
  fields_faults s bound NoFields found = found
  fields_faults s bound (MoreFields name e fs) found = fields_faults s bound fs (expr_faults s bound e found)

-- clauses, one behind the other
abbrev pub clauses_faults : Marks → List (Expr ℕ) → Option ℕ → Option ℕ
clauses_faults s [] found = found
clauses_faults s (e ∷ es) found = clauses_faults s es (expr_faults s [] e found)

abbrev pub option_faults : Marks → Option (Expr ℕ) → Option ℕ → Option ℕ
option_faults s None found = found
option_faults s (Some e) found = expr_faults s [] e found

abbrev pub step_faults : Marks → Step ℕ → Option ℕ → Option ℕ
step_faults s (IndexStep at e) found = expr_faults s [] e found
step_faults s (FieldStep at name) found = found

abbrev pub steps_faults : Marks → List (Step ℕ) → Option ℕ → Option ℕ
steps_faults s [] found = found
steps_faults s (step ∷ steps) found = steps_faults s steps (step_faults s step found)

-- a path into a variable uses the variable
abbrev pub path_faults : Marks → ℕ → ℕ → List (Step ℕ) → Option ℕ → Option ℕ
path_faults s at x [] found = found
path_faults s at x (step ∷ steps) found = steps_faults s (step ∷ steps) (noted_where (has s x) found at)

abbrev mutual
  pub faults : Stmt ℕ → Flow → Option ℕ → Option ℕ
  faults (DeclareStmt at ty x value) f found = option_faults f.here value found
  faults (AssignStmt at x path e) f found = expr_faults f.here [] e (path_faults f.here at x path found)
  faults (CallStmt at routine args) f found = exprs_faults f.here [] args found
  faults (ReturnStmt at value) f found = option_faults f.here value found
  faults (AssertStmt at e) f found = expr_faults f.here [] e found
  faults (BreakStmt at) f found = found
  faults (ContinueStmt at) f found = found
  faults (SkipStmt at) f found = found
  faults (FailStmt at) f found = found
  faults (IfStmt at e first second) f found = faults_all second (otherwise f.here (flow_all first f)) (faults_all first f (expr_faults f.here [] e found))
  faults (WhileStmt at e invariants body) f found =
      let s = head f.here (flow_all body alone) in faults_all body (from_here s) (expr_faults s [] e (clauses_faults s invariants found))

  pub faults_all : Stmts ℕ → Flow → Option ℕ → Option ℕ
  faults_all NoStmts f found = found
  faults_all (MoreStmts st rest) f found = faults_all rest (flow st f) (faults st f found)

-- both together
abbrev pub walked : Stmt ℕ → Walk → Walk
walked st w = record { flow = flow st w.flow; found = faults st w.flow w.found }

abbrev pub walked_all : Stmts ℕ → Walk → Walk
walked_all ss w = record { flow = flow_all ss w.flow; found = faults_all ss w.flow w.found }

-- behind the test of an `if`
abbrev pub tested : Expr ℕ → Walk → Walk
tested e w = record w { found = expr_faults w.flow.here [] e w.found }

-- at the second block of an `if`
abbrev pub begun_else : Marks → Walk → Walk
begun_else s first = record first { flow = otherwise s first.flow }

-- behind both blocks of an `if`
abbrev pub ended_if : Marks → Walk → Walk
ended_if s second = record second { flow = rejoined s second.flow }

-- where the body of a loop begins
abbrev pub begun_loop : Expr ℕ → List (Expr ℕ) → Stmts ℕ → Walk → Walk
begun_loop e invariants body w =
    let s = head w.flow.here (flow_all body alone) in record { flow = from_here s; found = expr_faults s [] e (clauses_faults s invariants w.found) }

-- where the body begins
abbrev pub entry : tree.Routine ℕ → Marks
entry r = with_params none_set r.params

-- the least place of a use in a declaration
abbrev pub alias_faults : tree.Alias ℕ → Option ℕ → Option ℕ
alias_faults a found = clauses_faults (with_option none_set a.variable) a.clauses found

abbrev pub routine_faults : tree.Routine ℕ → Option ℕ → Option ℕ
routine_faults r found =
    faults_all r.body (from_here (entry r)) (clauses_faults (with_option (entry r) (result_variable r.result)) r.postconditions (clauses_faults (entry r) r.preconditions found))

abbrev pub decl_faults : Decl ℕ → Option ℕ → Option ℕ
decl_faults (AliasDecl a) found = alias_faults a found
decl_faults (RoutineDecl r) found = routine_faults r found

-- the least place of a body that a path leaves without `return` or `fail`
abbrev pub routine_open : tree.Routine ℕ → Option ℕ → Option ℕ
routine_open r found = noted_where (is_some r.result && is_open (flow_all r.body (from_here (entry r)))) found r.at

abbrev pub decl_open : Decl ℕ → Option ℕ → Option ℕ
decl_open (AliasDecl a) found = found
decl_open (RoutineDecl r) found = routine_open r found

abbrev pub core_faults : Core ℕ → Option ℕ → Option ℕ
core_faults [] found = found
core_faults (d ∷ ds) found = core_faults ds (decl_faults d found)

abbrev pub core_open : Core ℕ → Option ℕ → Option ℕ
core_open [] found = found
core_open (d ∷ ds) found = core_open ds (decl_open d found)

-- which of the two is given
abbrev pub verdict : Option ℕ → Option ℕ → Option AssignFault
verdict None None = None
verdict (Some k) None = Some (Unset k)
verdict None (Some j) = Some (NoReturn j)
verdict (Some k) (Some j) = Some (cond (nat_lt j k) (NoReturn j) (Unset k))

-- the fault to be given, if there is one
abbrev pub fault_of : Core ℕ → Option AssignFault
fault_of core = verdict (core_faults core None) (core_open core None)

-- the answer is Ok where there is no fault, else the fault; want of memory may come in place of each
abbrev pub Answers : Option AssignFault → Result (Unit {0}) AssignFault → Type 0
Answers wanted (Ok done) = wanted ≡ None
Answers wanted (Err e) = e ≢ NoMemory → wanted ≡ Some e
