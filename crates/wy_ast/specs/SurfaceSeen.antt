-- The tree as it is written as plain data: what each node stands for, with its place.
use Rattle.std.specs.Prelude.{ℕ, List, map, Option, Some, None}
use Rattle.wy_ast.specs.SurfaceTree as tree
use Rattle.wy_ast.specs.declared.types.Ty.{Ty, Ty-F, fold-Ty}
use Rattle.wy_ast.specs.declared.types.TyKind.{TyKind-F}
use Rattle.wy_ast.specs.declared.expressions.Expr.{Expr, Expr-F, fold-Expr}
use Rattle.wy_ast.specs.declared.expressions.ExprKind.{ExprKind-F}
use Rattle.wy_ast.specs.declared.statements.Stmt.{Stmt, Stmt-F, fold-Stmt}
use Rattle.wy_ast.specs.declared.statements.StmtKind.{StmtKind-F}
use Rattle.wy_ast.specs.declared.statements.Case.{Case-F}
use Rattle.wy_ast.specs.declared.statements.Step.{Step}
use Rattle.wy_ast.specs.declared.statements.StepKind.{StepKind}
use Rattle.wy_ast.specs.declared.statements.StepKind.TheVariants as step
use Rattle.wy_ast.specs.declared.declarations.Param.{Param}
use Rattle.wy_ast.specs.declared.declarations.Decl.{Decl}
use Rattle.wy_ast.specs.declared.declarations.Decl.TheVariants as decl

abbrev pub ty_kind_layer : TyKind-F (ℕ → tree.Ty) tree.Ty → ℕ → tree.Ty
ty_kind_layer TyKind-F.Null at = tree.NullTy at
ty_kind_layer TyKind-F.Bool at = tree.BoolTy at
ty_kind_layer TyKind-F.Int at = tree.IntTy at
ty_kind_layer TyKind-F.Any at = tree.AnyTy at
ty_kind_layer TyKind-F.Void at = tree.VoidTy at
ty_kind_layer (TyKind-F.Record fields) at = tree.RecordTy at (tree.field_tys_of fields)
ty_kind_layer (TyKind-F.Array item) at = tree.ArrayTy at item
ty_kind_layer (TyKind-F.Union left right) at = tree.UnionTy at left right
ty_kind_layer (TyKind-F.Inter left right) at = tree.InterTy at left right
ty_kind_layer (TyKind-F.Not ty) at = tree.NotTy at ty
ty_kind_layer (TyKind-F.Named name) at = tree.NamedTy at name

abbrev pub ty_layer : Ty-F (ℕ → tree.Ty) tree.Ty → tree.Ty
ty_layer t = t.kind t.at

-- the type that the node stands for
abbrev pub seen_ty : Ty → tree.Ty
seen_ty = fold-Ty (ℕ → tree.Ty) tree.Ty ty_kind_layer ty_layer

abbrev pub expr_kind_layer : ExprKind-F (ℕ → tree.Expr) tree.Expr → ℕ → tree.Expr
expr_kind_layer ExprKind-F.Null at = tree.NullExpr at
expr_kind_layer (ExprKind-F.Bool truth) at = tree.BoolExpr at truth
expr_kind_layer (ExprKind-F.Int number) at = tree.IntExpr at number
expr_kind_layer (ExprKind-F.Text bytes) at = tree.TextExpr at bytes
expr_kind_layer (ExprKind-F.Var name) at = tree.VarExpr at name
expr_kind_layer (ExprKind-F.Call name args) at = tree.CallExpr at name (tree.exprs_of args)
expr_kind_layer (ExprKind-F.Neg operand) at = tree.NegExpr at operand
expr_kind_layer (ExprKind-F.Not operand) at = tree.NotExpr at operand
expr_kind_layer (ExprKind-F.Len operand) at = tree.LenExpr at operand
expr_kind_layer (ExprKind-F.Binary op left right) at = tree.BinaryExpr at op left right
expr_kind_layer (ExprKind-F.Is operand ty) at = tree.IsExpr at operand (seen_ty ty)
expr_kind_layer (ExprKind-F.Index array index) at = tree.IndexExpr at array index
expr_kind_layer (ExprKind-F.Field whole name) at = tree.FieldExpr at whole name
expr_kind_layer (ExprKind-F.List items) at = tree.ListExpr at (tree.exprs_of items)
expr_kind_layer (ExprKind-F.Repeat item count) at = tree.RepeatExpr at item count
expr_kind_layer (ExprKind-F.Record fields) at = tree.RecordExpr at (tree.fields_of fields)
expr_kind_layer (ExprKind-F.Quant all ranges body) at = tree.QuantExpr at all (tree.ranges_of ranges) body

abbrev pub expr_layer : Expr-F (ℕ → tree.Expr) tree.Expr → tree.Expr
expr_layer e = e.kind e.at

-- the expression that the node stands for
abbrev pub seen_expr : Expr → tree.Expr
seen_expr = fold-Expr (ℕ → tree.Expr) tree.Expr expr_kind_layer expr_layer

-- these expressions
abbrev pub seen_exprs : List Expr → List tree.Expr
seen_exprs es = map seen_expr es

-- these fields
abbrev pub seen_fields : List (List ℕ × Expr) → tree.Fields
seen_fields fs = tree.fields_of (map (λ f. (f.0, seen_expr f.1)) fs)

-- these ranges
abbrev pub seen_ranges : List (List ℕ × Expr × Expr) → tree.Ranges
seen_ranges rs = tree.ranges_of (map (λ r. (r.0, seen_expr r.1, seen_expr r.2)) rs)

-- an expression that may be absent
abbrev pub seen_option : Option Expr → Option tree.Expr
seen_option None = None
seen_option (Some e) = Some (seen_expr e)

abbrev pub seen_step_kind : StepKind → ℕ → tree.Step
seen_step_kind (step.Index index) at = tree.IndexStep at (seen_expr index)
seen_step_kind (step.Field name) at = tree.FieldStep at name

-- the step that the node stands for
abbrev pub seen_step : Step → tree.Step
seen_step s = seen_step_kind s.kind s.at

-- a case by itself: its labels and its block
abbrev pub SeenCase : Type 0
SeenCase = List tree.Expr × tree.Stmts

-- a switch, with the block of its default where there is one
abbrev pub switch_of : ℕ → tree.Expr → tree.Cases → Option (List tree.Stmt) → tree.Stmt
switch_of at value cases None = tree.SwitchStmt at value cases
switch_of at value cases (Some default) = tree.SwitchElseStmt at value cases (tree.stmts_of default)

abbrev pub stmt_kind_layer : StmtKind-F (ℕ → tree.Stmt) SeenCase tree.Stmt → ℕ → tree.Stmt
stmt_kind_layer (StmtKind-F.Declare ty name value) at = tree.DeclareStmt at (seen_ty ty) name (seen_option value)
stmt_kind_layer (StmtKind-F.Assign name path value) at = tree.AssignStmt at name (map seen_step path) (seen_expr value)
stmt_kind_layer (StmtKind-F.Call name args) at = tree.CallStmt at name (tree.exprs_of (seen_exprs args))
stmt_kind_layer (StmtKind-F.Return value) at = tree.ReturnStmt at (seen_option value)
stmt_kind_layer (StmtKind-F.Assert test) at = tree.AssertStmt at (seen_expr test)
stmt_kind_layer StmtKind-F.Break at = tree.BreakStmt at
stmt_kind_layer StmtKind-F.Continue at = tree.ContinueStmt at
stmt_kind_layer StmtKind-F.Skip at = tree.SkipStmt at
stmt_kind_layer StmtKind-F.Fail at = tree.FailStmt at
stmt_kind_layer (StmtKind-F.If test first second) at = tree.IfStmt at (seen_expr test) (tree.stmts_of first) (tree.stmts_of second)
stmt_kind_layer (StmtKind-F.While test invariants body) at = tree.WhileStmt at (seen_expr test) (seen_exprs invariants) (tree.stmts_of body)
stmt_kind_layer (StmtKind-F.Do body test invariants) at = tree.DoStmt at (tree.stmts_of body) (seen_expr test) (seen_exprs invariants)
stmt_kind_layer (StmtKind-F.For name from to invariants body) at =
    tree.ForStmt at name (seen_expr from) (seen_expr to) (seen_exprs invariants) (tree.stmts_of body)
stmt_kind_layer (StmtKind-F.Switch value cases default) at = switch_of at (seen_expr value) (tree.cases_of cases) default

abbrev pub case_layer : Case-F (ℕ → tree.Stmt) SeenCase tree.Stmt → SeenCase
case_layer c = (seen_exprs c.labels, tree.stmts_of c.body)

abbrev pub stmt_layer : Stmt-F (ℕ → tree.Stmt) SeenCase tree.Stmt → tree.Stmt
stmt_layer s = s.kind s.at

-- the statement that the node stands for
abbrev pub seen_stmt : Stmt → tree.Stmt
seen_stmt = fold-Stmt (ℕ → tree.Stmt) SeenCase tree.Stmt stmt_kind_layer case_layer stmt_layer

-- the block of these statements
abbrev pub seen_block : List Stmt → tree.Stmts
seen_block ss = tree.stmts_of (map seen_stmt ss)

-- the parameter
abbrev pub seen_param : Param → tree.Param
seen_param p = record { ty = seen_ty p.ty; name = p.name }

-- the result of a method
abbrev pub seen_result : Option (Ty × Option (List ℕ)) → Option (tree.Ty × Option (List ℕ))
seen_result None = None
seen_result (Some r) = Some (seen_ty r.0, r.1)

-- the declaration
abbrev pub seen_decl : Decl → tree.Decl
seen_decl (decl.Alias a) = tree.AliasDecl (record
    { at = a.at; name = a.name; ty = seen_ty a.ty; variable = a.variable; clauses = seen_exprs a.clauses })
seen_decl (decl.Function f) = tree.FunctionDecl (record {
  at = f.at;
  name = f.name;
  params = map seen_param f.params;
  result = seen_ty f.result;
  result_name = f.result_name;
  preconditions = seen_exprs f.preconditions;
  postconditions = seen_exprs f.postconditions;
  body = seen_block f.body;
})
seen_decl (decl.Method m) = tree.MethodDecl (record {
  at = m.at;
  name = m.name;
  params = map seen_param m.params;
  result = seen_result m.result;
  preconditions = seen_exprs m.preconditions;
  postconditions = seen_exprs m.postconditions;
  body = seen_block m.body;
})
seen_decl (decl.Property p) = tree.PropertyDecl (record
    { at = p.at; name = p.name; params = map seen_param p.params; clauses = seen_exprs p.clauses })
