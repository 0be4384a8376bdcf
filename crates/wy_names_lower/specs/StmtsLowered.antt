-- Statements of the core. Each definition takes the variables declared so far and gives them back with those that it declares.
use Rattle.std.specs.Prelude.{ℕ, ℤ, pos, ◌+◌, Bool, true, false, List, [], ◌∷◌, ◌++◌, length, codes, Option, Some, None}
use Rattle.wy_ast.specs.SurfaceTree as surface
use Rattle.wy_core.specs.CoreTree.{Expr, Step, IndexStep, FieldStep, Stmt, Stmts, DeclareStmt, AssignStmt, CallStmt, ReturnStmt, AssertStmt, BreakStmt, ContinueStmt, SkipStmt, FailStmt, IfStmt, WhileStmt, BoolExpr, IntExpr, VarExpr, BinaryExpr, exprs_of, stmts_of}
use Rattle.wy_core.specs.Types.{BoolTy, IntTy, AnyTy}
use Rattle.wy_core.specs.declared.expressions.Op.TheVariants as op
use Rattle.wy_names_scope.specs.Scope.{Scope, entry_of, with_name}
use Rattle.wy_names_scope.specs.declared.table.Entry.TheVariants as entry
use Rattle.wy_names_lower.specs.Variables.{Variables, declared, named, variable_of, routine_of}
use Rattle.wy_names_lower.specs.Uses.{With, Template}
use Rattle.wy_names_lower.specs.TypesLowered.{in_ty}
use Rattle.wy_names_lower.specs.ExprsLowered.{one, more, in_expr, in_exprs}

-- an expression that may be absent
abbrev pub in_option : List Template → Scope → Variables → Option surface.Expr → With (Option (Expr ℕ))
in_option ts s vs None = (vs, None)
in_option ts s vs (Some e) = one Some (in_expr ts s vs e)

-- a step of a path
abbrev pub in_step : List Template → Scope → Variables → surface.Step → With (Step ℕ)
in_step ts s vs (surface.IndexStep at e) = one (IndexStep at) (in_expr ts s vs e)
in_step ts s vs (surface.FieldStep at name) = (vs, FieldStep at name)

-- the steps of a path
abbrev pub in_path : List Template → Scope → Variables → List surface.Step → With (List (Step ℕ))
in_path ts s vs [] = (vs, [])
in_path ts s vs (step ∷ steps) = more (in_step ts s vs step).1 (in_path ts s (in_step ts s vs step).0 steps)

-- clauses, in order
abbrev pub in_clauses : List Template → Scope → Variables → List surface.Expr → With (List (Expr ℕ))
in_clauses ts s vs es = in_exprs ts s vs (surface.exprs_of es)

abbrev pub or_of : ℕ → Expr ℕ → Expr ℕ → Expr ℕ
or_of at a b = BinaryExpr at op.Or a b

-- `first || e`
abbrev pub behind_first : ℕ → ℕ → Expr ℕ → Expr ℕ
behind_first at first e = or_of at (VarExpr at first) e

abbrev pub each_behind_first : ℕ → ℕ → List (Expr ℕ) → List (Expr ℕ)
each_behind_first at first [] = []
each_behind_first at first (e ∷ es) = behind_first at first e ∷ each_behind_first at first es

-- `t == c`
abbrev pub equals : ℕ → ℕ → Expr ℕ → Expr ℕ
equals at t c = BinaryExpr at op.Equal (VarExpr at t) c

-- the second behind the first, by `||`; the second alone, where it is the first of all
abbrev pub either : ℕ → Bool → Expr ℕ → Expr ℕ → Expr ℕ
either at true a b = b
either at false a b = or_of at a b

-- `t == c` for each further label behind an expression, joined by `||` from the left
abbrev pub or_labels : ℕ → ℕ → Bool → Expr ℕ → List (Expr ℕ) → Expr ℕ
or_labels at t first e [] = e
or_labels at t first e (c ∷ cs) = or_labels at t false (either at first e (equals at t c)) cs

-- the test of a case
abbrev pub is_one_of : ℕ → ℕ → List (Expr ℕ) → Expr ℕ
is_one_of at t cs = or_labels at t true (BoolExpr at false) cs

-- a case: its test and its block
pub record Arm : Type 0 where
  pub test : Expr ℕ
  pub body : List (Stmt ℕ)

-- a case, and these statements in its `else`
abbrev pub choice : ℕ → Arm → List (Stmt ℕ) → List (Stmt ℕ)
choice at a other = IfStmt at a.test (stmts_of a.body) (stmts_of other) ∷ []

-- `if` for each case, each in the `else` of the one before it, and the last block in the last `else`
abbrev pub chain : ℕ → List Arm → List (Stmt ℕ) → List (Stmt ℕ)
chain at [] last = last
chain at (a ∷ rest) last = choice at a (chain at rest last)

-- the variables of a `for`: its ends, the one that counts, and its own
pub record Span : Type 0 where
  pub lo : ℕ
  pub hi : ℕ
  pub t : ℕ
  pub i : ℕ

abbrev pub span : Variables → Span
span vs = record { lo = length vs; hi = length vs + 1; t = length vs + 2; i = length vs + 3 }

abbrev pub with_span : Variables → List ℕ → Variables
with_span vs name = named (named (named (named vs (codes "lo")) (codes "hi")) (codes "t")) name

-- `lo <= t` and `t <= hi || hi < lo`
abbrev pub bounds : ℕ → Span → List (Expr ℕ)
bounds at v =
    BinaryExpr at op.LessEqual (VarExpr at v.lo) (VarExpr at v.t)
    ∷ or_of at (BinaryExpr at op.LessEqual (VarExpr at v.t) (VarExpr at v.hi)) (BinaryExpr at op.Less (VarExpr at v.hi) (VarExpr at v.lo))
    ∷ []

-- `i = t; t = t + 1`, where i is declared
abbrev pub next_turn : ℕ → Span → List (Stmt ℕ)
next_turn at v =
    DeclareStmt at IntTy v.i (Some (VarExpr at v.t))
    ∷ AssignStmt at v.t [] (BinaryExpr at op.Add (VarExpr at v.t) (IntExpr at (pos 1)))
    ∷ []

-- `lo = a; hi = b; t = lo`
abbrev pub starts : ℕ → Span → Expr ℕ → Expr ℕ → List (Stmt ℕ)
starts at v from to =
    DeclareStmt at IntTy v.lo (Some from)
    ∷ DeclareStmt at IntTy v.hi (Some to)
    ∷ DeclareStmt at IntTy v.t (Some (VarExpr at v.lo))
    ∷ []

-- `while t < hi where lo <= t where t <= hi || hi < lo where v': i = t; t = t + 1; B`
abbrev pub turns : ℕ → Span → List (Expr ℕ) → List (Stmt ℕ) → Stmt ℕ
turns at v own body =
    WhileStmt at (BinaryExpr at op.Less (VarExpr at v.t) (VarExpr at v.hi)) (bounds at v ++ own) (stmts_of (next_turn at v ++ body))

-- both
abbrev pub counted : ℕ → Span → Expr ℕ → Expr ℕ → List (Expr ℕ) → List (Stmt ℕ) → List (Stmt ℕ)
counted at v from to own body = starts at v from to ++ turns at v own body ∷ []

-- the same with `first ||` in the test and the invariants already
abbrev pub repeated_behind : ℕ → ℕ → Expr ℕ → List (Expr ℕ) → List (Stmt ℕ) → List (Stmt ℕ)
repeated_behind at first test invariants body =
    DeclareStmt at BoolTy first (Some (BoolExpr at true))
    ∷ WhileStmt at test invariants (stmts_of (AssignStmt at first [] (BoolExpr at false) ∷ body))
    ∷ []

-- `first = true; while first || c where first || v: first = false; B`
abbrev pub repeated : ℕ → ℕ → Expr ℕ → List (Expr ℕ) → List (Stmt ℕ) → List (Stmt ℕ)
repeated at first test invariants body = repeated_behind at first (behind_first at first test) (each_behind_first at first invariants) body

-- `t = e` and the chain
abbrev pub switched : ℕ → ℕ → Expr ℕ → List Arm → List (Stmt ℕ) → List (Stmt ℕ)
switched at t value arms last = DeclareStmt at AnyTy t (Some value) ∷ chain at arms last

-- the scope of what stands behind the statement: a variable is in scope behind its declaration
abbrev pub scope_behind : List Template → Scope → Variables → surface.Stmt → Scope
scope_behind ts s vs (surface.DeclareStmt at ty name value) = declared s (in_option ts s vs value).0 name
scope_behind ts s vs (surface.AssignStmt at name path value) = s
scope_behind ts s vs (surface.CallStmt at name args) = s
scope_behind ts s vs (surface.ReturnStmt at value) = s
scope_behind ts s vs (surface.AssertStmt at test) = s
scope_behind ts s vs (surface.BreakStmt at) = s
scope_behind ts s vs (surface.ContinueStmt at) = s
scope_behind ts s vs (surface.SkipStmt at) = s
scope_behind ts s vs (surface.FailStmt at) = s
scope_behind ts s vs (surface.IfStmt at test first second) = s
scope_behind ts s vs (surface.WhileStmt at test invariants body) = s
scope_behind ts s vs (surface.DoStmt at body test invariants) = s
scope_behind ts s vs (surface.ForStmt at name from to invariants body) = s
scope_behind ts s vs (surface.SwitchStmt at value cs) = s
scope_behind ts s vs (surface.SwitchElseStmt at value cs default) = s

-- one statement
abbrev pub alone : Stmt ℕ → List (Stmt ℕ)
alone x = x ∷ []

-- statements before others
abbrev pub before : List (Stmt ℕ) → With (List (Stmt ℕ)) → With (List (Stmt ℕ))
before xs y = (y.0, xs ++ y.1)

-- `ty name = value`
abbrev pub in_declare : List Template → Scope → Variables → ℕ → surface.Ty → List ℕ → Option surface.Expr → With (List (Stmt ℕ))
in_declare ts s vs at ty name value =
    (named (in_option ts s vs value).0 name, alone (DeclareStmt at (in_ty s ty) (length (in_option ts s vs value).0) (in_option ts s vs value).1))

-- `name path = value`
abbrev pub in_assign : List Template → Scope → Variables → ℕ → List ℕ → List surface.Step → surface.Expr → With (List (Stmt ℕ))
in_assign ts s vs at name path value =
    one (λ e. alone (AssignStmt at (variable_of (entry_of s name)) (in_path ts s vs path).1 e)) (in_expr ts s (in_path ts s vs path).0 value)

-- a call, a return and an assertion
abbrev pub in_call : List Template → Scope → Variables → ℕ → List ℕ → surface.Exprs → With (List (Stmt ℕ))
in_call ts s vs at name args = one (λ es. alone (CallStmt at (routine_of (entry_of s name)) (exprs_of es))) (in_exprs ts s vs args)

abbrev pub in_return : List Template → Scope → Variables → ℕ → Option surface.Expr → With (List (Stmt ℕ))
in_return ts s vs at value = one (λ e. alone (ReturnStmt at e)) (in_option ts s vs value)

abbrev pub in_assert : List Template → Scope → Variables → ℕ → surface.Expr → With (List (Stmt ℕ))
in_assert ts s vs at test = one (λ e. alone (AssertStmt at e)) (in_expr ts s vs test)

-- the test of a `do`, behind the declaration of `first`, and its invariants
abbrev pub do_test : List Template → Scope → Variables → surface.Expr → With (Expr ℕ)
do_test ts s vs test = in_expr ts s (named vs (codes "first")) test

abbrev pub do_invariants : List Template → Scope → Variables → surface.Expr → List surface.Expr → With (List (Expr ℕ))
do_invariants ts s vs test invariants = in_clauses ts s (do_test ts s vs test).0 invariants

-- the ends of a `for`
abbrev pub for_from : List Template → Scope → Variables → surface.Expr → With (Expr ℕ)
for_from ts s vs from = in_expr ts s vs from

abbrev pub for_to : List Template → Scope → Variables → surface.Expr → surface.Expr → With (Expr ℕ)
for_to ts s vs from to = in_expr ts s (for_from ts s vs from).0 to

-- its variables
abbrev pub for_span : List Template → Scope → Variables → surface.Expr → surface.Expr → Span
for_span ts s vs from to = span (for_to ts s vs from to).0

-- the scope in which the name stands for this variable
abbrev pub renamed : Scope → List ℕ → ℕ → Scope
renamed s name n = with_name s name (entry.Variable n)

-- its own invariants, in which its name stands for the variable that counts
abbrev pub for_invariants : List Template → Scope → Variables → List ℕ → surface.Expr → surface.Expr → List surface.Expr → With (List (Expr ℕ))
for_invariants ts s vs name from to invariants =
    in_clauses ts (renamed s name (for_span ts s vs from to).t) (with_span (for_to ts s vs from to).0 name) invariants

-- the value of a `switch`
abbrev pub switch_value : List Template → Scope → Variables → surface.Expr → With (Expr ℕ)
switch_value ts s vs value = in_expr ts s vs value

-- the number of the variable that has it, and the variables with that one
abbrev pub switch_number : List Template → Scope → Variables → surface.Expr → ℕ
switch_number ts s vs value = length (switch_value ts s vs value).0

abbrev pub switch_variables : List Template → Scope → Variables → surface.Expr → Variables
switch_variables ts s vs value = named (switch_value ts s vs value).0 (codes "t")

abbrev mutual
  -- the core of the statement
  pub in_stmt : List Template → Scope → Variables → surface.Stmt → With (List (Stmt ℕ))
  in_stmt ts s vs (surface.DeclareStmt at ty name value) = in_declare ts s vs at ty name value
  in_stmt ts s vs (surface.AssignStmt at name path value) = in_assign ts s vs at name path value
  in_stmt ts s vs (surface.CallStmt at name args) = in_call ts s vs at name args
  in_stmt ts s vs (surface.ReturnStmt at value) = in_return ts s vs at value
  in_stmt ts s vs (surface.AssertStmt at test) = in_assert ts s vs at test
  in_stmt ts s vs (surface.BreakStmt at) = (vs, alone (BreakStmt at))
  in_stmt ts s vs (surface.ContinueStmt at) = (vs, alone (ContinueStmt at))
  in_stmt ts s vs (surface.SkipStmt at) = (vs, alone (SkipStmt at))
  in_stmt ts s vs (surface.FailStmt at) = (vs, alone (FailStmt at))
  in_stmt ts s vs (surface.IfStmt at test first second) =
      one (λ c. alone (IfStmt at (in_expr ts s vs test).1 (stmts_of (in_stmts ts s (in_expr ts s vs test).0 first).1) (stmts_of c)))
      (in_stmts ts s (in_stmts ts s (in_expr ts s vs test).0 first).0 second)
  in_stmt ts s vs (surface.WhileStmt at test invariants body) =
      one (λ b. alone (WhileStmt at (in_expr ts s vs test).1 (in_clauses ts s (in_expr ts s vs test).0 invariants).1 (stmts_of b)))
      (in_stmts ts s (in_clauses ts s (in_expr ts s vs test).0 invariants).0 body)
  in_stmt ts s vs (surface.DoStmt at body test invariants) =
      one (repeated at (length vs) (do_test ts s vs test).1 (do_invariants ts s vs test invariants).1)
      (in_stmts ts s (do_invariants ts s vs test invariants).0 body)
  in_stmt ts s vs (surface.ForStmt at name from to invariants body) =
      one (counted at (for_span ts s vs from to) (for_from ts s vs from).1 (for_to ts s vs from to).1 (for_invariants ts s vs name from to invariants).1)
      (in_stmts ts (renamed s name (for_span ts s vs from to).i) (for_invariants ts s vs name from to invariants).0 body)
  in_stmt ts s vs (surface.SwitchStmt at value cs) =
      one (λ arms. switched at (switch_number ts s vs value) (switch_value ts s vs value).1 arms [])
      (in_cases ts s (switch_variables ts s vs value) at (switch_number ts s vs value) cs)
  in_stmt ts s vs (surface.SwitchElseStmt at value cs default) =
      one
      (switched at (switch_number ts s vs value) (switch_value ts s vs value).1
      (in_cases ts s (switch_variables ts s vs value) at (switch_number ts s vs value) cs).1)
      (in_stmts ts s (in_cases ts s (switch_variables ts s vs value) at (switch_number ts s vs value) cs).0 default)

  -- the core of a block
  pub in_stmts : List Template → Scope → Variables → surface.Stmts → With (List (Stmt ℕ))
  in_stmts ts s vs surface.NoStmts = (vs, [])
  in_stmts ts s vs (surface.MoreStmts x rest) = before (in_stmt ts s vs x).1 (in_stmts ts (scope_behind ts s vs x) (in_stmt ts s vs x).0 rest)

  -- the cases of a switch at the place, whose value is the variable
  pub in_cases : List Template → Scope → Variables → ℕ → ℕ → surface.Cases → With (List Arm)
  in_cases ts s vs at t surface.NoCases = (vs, [])
  in_cases ts s vs at t (surface.MoreCases labels body rest) =
      more (record { test = is_one_of at t (in_clauses ts s vs labels).1; body = (in_stmts ts s (in_clauses ts s vs labels).0 body).1 })
      (in_cases ts s (in_stmts ts s (in_clauses ts s vs labels).0 body).0 at t rest)

-- the test of an `if`, its first block, and the whole
abbrev pub if_test : List Template → Scope → Variables → surface.Expr → With (Expr ℕ)
if_test ts s vs test = in_expr ts s vs test

abbrev pub if_first : List Template → Scope → Variables → surface.Expr → surface.Stmts → With (List (Stmt ℕ))
if_first ts s vs test first = in_stmts ts s (if_test ts s vs test).0 first

abbrev pub if_of : ℕ → Expr ℕ → List (Stmt ℕ) → List (Stmt ℕ) → List (Stmt ℕ)
if_of at test first second = alone (IfStmt at test (stmts_of first) (stmts_of second))

-- a `while`, a `do` and a `for`, by their parts
abbrev pub while_stmt : List Template → Scope → Variables → ℕ → surface.Expr → List surface.Expr → surface.Stmts → With (List (Stmt ℕ))
while_stmt ts s vs at test invariants body =
    one (λ b. alone (WhileStmt at (in_expr ts s vs test).1 (in_clauses ts s (in_expr ts s vs test).0 invariants).1 (stmts_of b)))
    (in_stmts ts s (in_clauses ts s (in_expr ts s vs test).0 invariants).0 body)

abbrev pub do_stmt : List Template → Scope → Variables → ℕ → surface.Expr → List surface.Expr → surface.Stmts → With (List (Stmt ℕ))
do_stmt ts s vs at test invariants body =
    one (repeated at (length vs) (do_test ts s vs test).1 (do_invariants ts s vs test invariants).1)
    (in_stmts ts s (do_invariants ts s vs test invariants).0 body)

abbrev pub for_stmt : List Template → Scope → Variables → ℕ → List ℕ → surface.Expr → surface.Expr → List surface.Expr → surface.Stmts → With (List (Stmt ℕ))
for_stmt ts s vs at name from to invariants body =
    one (counted at (for_span ts s vs from to) (for_from ts s vs from).1 (for_to ts s vs from to).1 (for_invariants ts s vs name from to invariants).1)
    (in_stmts ts (renamed s name (for_span ts s vs from to).i) (for_invariants ts s vs name from to invariants).0 body)

-- a `switch`; nothing for other statements
abbrev pub switch_stmt : List Template → Scope → Variables → surface.Stmt → With (List (Stmt ℕ))
switch_stmt ts s vs (surface.SwitchStmt at value cs) =
    one (λ arms. switched at (switch_number ts s vs value) (switch_value ts s vs value).1 arms [])
    (in_cases ts s (switch_variables ts s vs value) at (switch_number ts s vs value) cs)
switch_stmt ts s vs (surface.SwitchElseStmt at value cs default) =
    one
    (switched at (switch_number ts s vs value) (switch_value ts s vs value).1
    (in_cases ts s (switch_variables ts s vs value) at (switch_number ts s vs value) cs).1)
    (in_stmts ts s (in_cases ts s (switch_variables ts s vs value) at (switch_number ts s vs value) cs).0 default)
switch_stmt ts s vs statement = (vs, [])
