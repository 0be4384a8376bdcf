-- A tree with its places aside: as plain data in which each place is 0.
use Rattle.std.specs.Prelude.{ℕ}
use Rattle.wy_ast.specs.SurfaceTree as tree
use Rattle.wy_ast.specs.SurfaceSeen as seen
use Rattle.wy_ast.specs.declared.types.Ty.{Ty, Ty-F, fold-Ty}
use Rattle.wy_ast.specs.declared.expressions.Expr.{Expr, Expr-F, fold-Expr}
use Rattle.wy_ast.specs.declared.expressions.ExprKind.{ExprKind-F}

abbrev pub ty_layer : Ty-F (ℕ → tree.Ty) tree.Ty → tree.Ty
ty_layer t = t.kind 0

-- the type
abbrev pub bare_ty : Ty → tree.Ty
bare_ty = fold-Ty (ℕ → tree.Ty) tree.Ty seen.ty_kind_layer ty_layer

abbrev pub expr_kind_layer : ExprKind-F (ℕ → tree.Expr) tree.Expr → ℕ → tree.Expr
expr_kind_layer (ExprKind-F.Is operand ty) at = tree.IsExpr at operand (bare_ty ty)
expr_kind_layer k at = seen.expr_kind_layer k at

abbrev pub expr_layer : Expr-F (ℕ → tree.Expr) tree.Expr → tree.Expr
expr_layer e = e.kind 0

-- the expression
abbrev pub bare_expr : Expr → tree.Expr
bare_expr = fold-Expr (ℕ → tree.Expr) tree.Expr expr_kind_layer expr_layer
