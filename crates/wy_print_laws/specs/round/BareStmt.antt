-- A statement with its places aside: as plain data in which each place is 0.
use Rattle.std.specs.Prelude.{map, Option, Some, None}
use Rattle.wy_ast.specs.SurfaceTree as tree
use Rattle.wy_ast.specs.SurfaceSeen as seen
use Rattle.wy_ast.specs.declared.expressions.Expr.{Expr}
use Rattle.wy_ast.specs.declared.statements.Stmt.{Stmt, Stmt-F, fold-Stmt}
use Rattle.wy_ast.specs.declared.statements.StmtKind.{StmtKind-F}
use Rattle.wy_ast.specs.declared.statements.Case.{Case, Case-F, fold-Case}
use Rattle.wy_ast.specs.declared.statements.Step.{Step}
use Rattle.wy_ast.specs.declared.statements.StepKind.{StepKind}
use Rattle.wy_ast.specs.declared.statements.StepKind.TheVariants as step
use Rattle.wy_print_laws.specs.round.Bare.{bare_ty, bare_expr}

-- an expression that may be absent
abbrev pub bare_option : Option Expr → Option tree.Expr
bare_option None = None
bare_option (Some e) = Some (bare_expr e)

abbrev pub bare_step_kind : StepKind → tree.Step
bare_step_kind (step.Index index) = tree.IndexStep 0 (bare_expr index)
bare_step_kind (step.Field name) = tree.FieldStep 0 name

abbrev pub bare_step : Step → tree.Step
bare_step s = bare_step_kind s.kind

abbrev pub stmt_kind_layer : StmtKind-F tree.Stmt seen.SeenCase tree.Stmt → tree.Stmt
stmt_kind_layer (StmtKind-F.Declare ty name value) = tree.DeclareStmt 0 (bare_ty ty) name (bare_option value)
stmt_kind_layer (StmtKind-F.Assign name path value) = tree.AssignStmt 0 name (map bare_step path) (bare_expr value)
stmt_kind_layer (StmtKind-F.Call name args) = tree.CallStmt 0 name (tree.exprs_of (map bare_expr args))
stmt_kind_layer (StmtKind-F.Return value) = tree.ReturnStmt 0 (bare_option value)
stmt_kind_layer (StmtKind-F.Assert test) = tree.AssertStmt 0 (bare_expr test)
stmt_kind_layer StmtKind-F.Break = tree.BreakStmt 0
stmt_kind_layer StmtKind-F.Continue = tree.ContinueStmt 0
stmt_kind_layer StmtKind-F.Skip = tree.SkipStmt 0
stmt_kind_layer StmtKind-F.Fail = tree.FailStmt 0
stmt_kind_layer (StmtKind-F.If test first second) = tree.IfStmt 0 (bare_expr test) (tree.stmts_of first) (tree.stmts_of second)
stmt_kind_layer (StmtKind-F.While test invariants body) = tree.WhileStmt 0 (bare_expr test) (map bare_expr invariants) (tree.stmts_of body)
stmt_kind_layer (StmtKind-F.Do body test invariants) = tree.DoStmt 0 (tree.stmts_of body) (bare_expr test) (map bare_expr invariants)
stmt_kind_layer (StmtKind-F.For name from to invariants body) = tree.ForStmt 0 name (bare_expr from) (bare_expr to) (map bare_expr invariants) (tree.stmts_of body)
stmt_kind_layer (StmtKind-F.Switch value cases default) = seen.switch_of 0 (bare_expr value) (tree.cases_of cases) default

abbrev pub case_layer : Case-F tree.Stmt seen.SeenCase tree.Stmt → seen.SeenCase
case_layer c = (map bare_expr c.labels, tree.stmts_of c.body)

abbrev pub stmt_layer : Stmt-F tree.Stmt seen.SeenCase tree.Stmt → tree.Stmt
stmt_layer s = s.kind

-- the statement
abbrev pub bare_stmt : Stmt → tree.Stmt
bare_stmt = fold-Stmt tree.Stmt seen.SeenCase tree.Stmt stmt_kind_layer case_layer stmt_layer

-- the case: its labels and its block
abbrev pub bare_case : Case → seen.SeenCase
bare_case = fold-Case tree.Stmt seen.SeenCase tree.Stmt stmt_kind_layer case_layer stmt_layer
