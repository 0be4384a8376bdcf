-- The faults that expansions bring to whole expressions and to statements.
use Rattle.std.specs.Prelude.{ℕ, min, Bool, true, false, List, [], ◌∷◌, length, Option, Some, None}
use Rattle.wy_ast.specs.SurfaceTree.{Expr, Exprs, NoExprs, MoreExprs, Step, IndexStep, FieldStep, Stmt, Stmts, Cases, DeclareStmt, AssignStmt, CallStmt, ReturnStmt, AssertStmt, BreakStmt, ContinueStmt, SkipStmt, FailStmt, IfStmt, WhileStmt, DoStmt, ForStmt, SwitchStmt, SwitchElseStmt, NoStmts, MoreStmts, NoCases, MoreCases}
use Rattle.wy_ast.specs.SurfaceSeen.{SeenCase, stmt_kind_layer, case_layer, stmt_layer}
use Rattle.wy_ast.specs.declared.statements.Case.{Case, fold-Case}
use Rattle.wy_names_scope.specs.Faults.{Found}
use Rattle.wy_names_scope.specs.Places.{place_of_expr}
use Rattle.wy_names_expand.specs.declared.measure.Measure.{Measure}
use Rattle.wy_names_expand.specs.Measures.{nothing, root, deeper, limited, inside, counted}
use Rattle.wy_names_expand.specs.Sizes.{Known, in_expr, in_label}

-- the case that the node stands for
abbrev pub seen_case : Case → SeenCase
seen_case = fold-Case (ℕ → Stmt) SeenCase Stmt stmt_kind_layer case_layer stmt_layer

-- the faults of a whole expression, with those found before
abbrev pub whole : Known → Bool → Expr → Found → Found
whole k is_code e found = limited (in_expr k (root is_code) e (nothing found [])) (place_of_expr e)

abbrev pub each_whole : Known → Bool → List Expr → Found → Found
each_whole k is_code [] found = found
each_whole k is_code (e ∷ es) found = each_whole k is_code es (whole k is_code e found)

-- the arguments of a call that is a statement, each of them whole
abbrev pub each_arg : Known → Exprs → Found → Found
each_arg k NoExprs found = found
each_arg k (MoreExprs e rest) found = each_arg k rest (whole k true e found)

abbrev pub whole_option : Known → Option Expr → Found → Found
whole_option k None found = found
whole_option k (Some e) found = whole k true e found

-- an expression behind `first ||`, which the lowering of the `do` at the place makes
abbrev pub behind_first : Known → Bool → ℕ → Expr → Found → Found
behind_first k is_code at e found =
    limited (in_expr k (inside (root is_code)) e (counted (counted (nothing found []) (root is_code)) (inside (root is_code)))) at

abbrev pub each_behind_first : Known → ℕ → List Expr → Found → Found
each_behind_first k at [] found = found
each_behind_first k at (e ∷ es) found = each_behind_first k at es (behind_first k false at e found)

-- a label before this many others, the first or a further one
abbrev pub one_label : Known → Bool → ℕ → Expr → Measure → Measure
one_label k true left e m = in_label k (deeper (root true) (min 4097 left)) e m
one_label k false left e m = in_label k (inside (deeper (root true) (min 4097 left))) e (counted m (deeper (root true) (min 4097 left)))

-- `t == c` for each label, joined by `||` from the left
abbrev pub in_labels : Known → Bool → List Expr → Measure → Measure
in_labels k is_first [] m = m
in_labels k is_first (e ∷ es) m = in_labels k false es (one_label k is_first (length es) e m)

-- the test of a case, which the lowering of the `switch` at the place makes
abbrev pub in_test : Known → ℕ → List Expr → Found → Found
in_test k at labels found = limited (in_labels k true labels (nothing found [])) at

abbrev pub in_path : Known → List Step → Found → Found
in_path k [] found = found
in_path k (IndexStep at e ∷ steps) found = in_path k steps (whole k true e found)
in_path k (FieldStep at name ∷ steps) found = in_path k steps found

abbrev mutual
  -- the faults of the statement, with those found before
  pub in_stmt : Known → Stmt → Found → Found
  in_stmt k (DeclareStmt at ty name value) found = whole_option k value found
  in_stmt k (AssignStmt at name path value) found = whole k true value (in_path k path found)
  in_stmt k (CallStmt at name args) found = each_arg k args found
  in_stmt k (ReturnStmt at value) found = whole_option k value found
  in_stmt k (AssertStmt at test) found = whole k false test found
  in_stmt k (BreakStmt at) found = found
  in_stmt k (ContinueStmt at) found = found
  in_stmt k (SkipStmt at) found = found
  in_stmt k (FailStmt at) found = found
  in_stmt k (IfStmt at test first second) found = in_stmts k second (in_stmts k first (whole k true test found))
  in_stmt k (WhileStmt at test invariants body) found = in_stmts k body (each_whole k false invariants (whole k true test found))
  in_stmt k (DoStmt at body test invariants) found = each_behind_first k at invariants (behind_first k true at test (in_stmts k body found))
  in_stmt k (ForStmt at name from to invariants body) found =
      in_stmts k body (each_whole k false invariants (whole k true to (whole k true from found)))
  in_stmt k (SwitchStmt at value cs) found = in_cases k at cs (whole k true value found)
  in_stmt k (SwitchElseStmt at value cs default) found = in_stmts k default (in_cases k at cs (whole k true value found))

  pub in_stmts : Known → Stmts → Found → Found
  in_stmts k NoStmts found = found
  in_stmts k (MoreStmts s rest) found = in_stmts k rest (in_stmt k s found)

  pub in_cases : Known → ℕ → Cases → Found → Found
  in_cases k at NoCases found = found
  in_cases k at (MoreCases labels body rest) found = in_cases k at rest (in_stmts k body (in_test k at labels found))
