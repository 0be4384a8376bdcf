-- The faults of names in statements.
use Rattle.std.specs.Prelude.{ℕ, Bool, true, false, not, List, [], ◌∷◌, Option, Some, None, is_some}
use Rattle.wy_ast.specs.SurfaceTree.{Expr, Step, IndexStep, FieldStep, Stmt, Stmts, Cases, DeclareStmt, AssignStmt, CallStmt, ReturnStmt, AssertStmt, BreakStmt, ContinueStmt, SkipStmt, FailStmt, IfStmt, WhileStmt, DoStmt, ForStmt, SwitchStmt, SwitchElseStmt, NoStmts, MoreStmts, NoCases, MoreCases, exprs_of}
use Rattle.wy_ast.specs.SurfaceSeen.{SeenCase, stmt_kind_layer, case_layer, stmt_layer}
use Rattle.wy_ast.specs.declared.statements.Case.{Case, fold-Case}
use Rattle.wy_names_scope.specs.declared.fault.Cause.TheVariants as cause
use Rattle.wy_names_scope.specs.Faults.{Found, noted_where}
use Rattle.wy_names_scope.specs.Scope.{Scope, entry_of, has, with_name}
use Rattle.wy_names_recursion.specs.declared.context.Context.{Context}
use Rattle.wy_names_recursion.specs.Calls.{contract, looped, call, is_variable}
use Rattle.wy_names_recursion.specs.TypeNames.{in_ty, just_a_name}
use Rattle.wy_names_recursion.specs.ExprNames.{in_expr, in_exprs, count_of}

-- the case that the node stands for
abbrev pub seen_case : Case → SeenCase
seen_case = fold-Case (ℕ → Stmt) SeenCase Stmt stmt_kind_layer case_layer stmt_layer

-- an expression that may be absent
abbrev pub in_option : Context → Scope → Option Expr → Found → Found
in_option c scope None found = found
in_option c scope (Some e) found = in_expr c scope e found

-- the indices of a path
abbrev pub in_path : Context → Scope → List Step → Found → Found
in_path c scope [] found = found
in_path c scope (IndexStep at e ∷ steps) found = in_path c scope steps (in_expr c scope e found)
in_path c scope (FieldStep at name ∷ steps) found = in_path c scope steps found

-- differ
abbrev pub differ : Bool → Bool → Bool
differ true b = not b
differ false b = b

-- the scope of what stands behind the statement: a variable is in scope behind its declaration
abbrev pub scope_behind : Scope → Stmt → Scope
scope_behind scope (DeclareStmt at ty name value) = with_name scope name just_a_name
scope_behind scope (AssignStmt at name path value) = scope
scope_behind scope (CallStmt at name args) = scope
scope_behind scope (ReturnStmt at value) = scope
scope_behind scope (AssertStmt at test) = scope
scope_behind scope (BreakStmt at) = scope
scope_behind scope (ContinueStmt at) = scope
scope_behind scope (SkipStmt at) = scope
scope_behind scope (FailStmt at) = scope
scope_behind scope (IfStmt at test first second) = scope
scope_behind scope (WhileStmt at test invariants body) = scope
scope_behind scope (DoStmt at body test invariants) = scope
scope_behind scope (ForStmt at name from to invariants body) = scope
scope_behind scope (SwitchStmt at value cs) = scope
scope_behind scope (SwitchElseStmt at value cs default) = scope

abbrev mutual
  -- the faults of the statement, with those found before
  pub in_stmt : Context → Scope → Stmt → Found → Found
  in_stmt c scope (DeclareStmt at ty name value) found =
      noted_where (has scope name) (in_option c scope value (in_ty scope ty found)) at cause.Twice
  in_stmt c scope (AssignStmt at name path value) found =
      in_expr c scope value (in_path c scope path (noted_where (not (is_variable (entry_of scope name))) found at cause.Unknown))
  in_stmt c scope (CallStmt at name args) found = in_exprs c scope args (call c false (entry_of scope name) (count_of args) at found)
  in_stmt c scope (ReturnStmt at value) found = in_option c scope value (noted_where (differ (is_some value) c.has_result) found at cause.Arity)
  in_stmt c scope (AssertStmt at test) found = in_expr (contract c) scope test found
  in_stmt c scope (BreakStmt at) found = noted_where (not c.in_loop) found at cause.OutsideLoop
  in_stmt c scope (ContinueStmt at) found = noted_where (not c.in_loop) found at cause.OutsideLoop
  in_stmt c scope (SkipStmt at) found = found
  in_stmt c scope (FailStmt at) found = found
  in_stmt c scope (IfStmt at test first second) found = in_stmts c scope second (in_stmts c scope first (in_expr c scope test found))
  in_stmt c scope (WhileStmt at test invariants body) found =
      in_stmts (looped c) scope body (in_exprs (contract c) scope (exprs_of invariants) (in_expr c scope test found))
  in_stmt c scope (DoStmt at body test invariants) found =
      in_exprs (contract c) scope (exprs_of invariants) (in_expr c scope test (in_stmts (looped c) scope body found))
  in_stmt c scope (ForStmt at name from to invariants body) found =
      in_stmts (looped c) (with_name scope name just_a_name) body
      (in_exprs (contract c) (with_name scope name just_a_name) (exprs_of invariants)
      (noted_where (has scope name) (in_expr c scope to (in_expr c scope from found)) at cause.Twice))
  in_stmt c scope (SwitchStmt at value cs) found = in_cases c scope cs (in_expr c scope value found)
  in_stmt c scope (SwitchElseStmt at value cs default) found = in_stmts c scope default (in_cases c scope cs (in_expr c scope value found))

  -- those of a block
  pub in_stmts : Context → Scope → Stmts → Found → Found
  in_stmts c scope NoStmts found = found
  in_stmts c scope (MoreStmts s rest) found = in_stmts c (scope_behind scope s) rest (in_stmt c scope s found)

  -- those of the cases of a switch
  pub in_cases : Context → Scope → Cases → Found → Found
  in_cases c scope NoCases found = found
  in_cases c scope (MoreCases labels body rest) found = in_cases c scope rest (in_stmts c scope body (in_exprs c scope (exprs_of labels) found))

-- the scope behind a block's statements, still within it
abbrev pub with_stmts : Scope → Stmts → Scope
with_stmts scope NoStmts = scope
with_stmts scope (MoreStmts s rest) = with_stmts (scope_behind scope s) rest
