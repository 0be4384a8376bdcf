-- What nodes stand for.
use Rattle.std.proofs.Common.{◌≡◌, ℕ, refl, rules}
use Rattle.wy_core.specs.CoreSeen.{seen_expr, expr_kind_layer}
use Rattle.wy_core.specs.CoreTree as tree
use Rattle.wy_core.specs.declared.expressions.Expr as e
use Rattle.wy_core.specs.declared.expressions.ExprKind.{ExprKind-F}
use Rattle.wy_flow_spec.specs.typing.Places.{place_of}

-- ---- the place of an expression

pub layer_place : (k : ExprKind-F (ℕ → tree.Expr ℕ) (tree.Expr ℕ)) (at : ℕ) → place_of (expr_kind_layer k at) ≡ at
layer_place ExprKind-F.Null at = refl
layer_place (ExprKind-F.Bool truth) at = refl
layer_place (ExprKind-F.Int number) at = refl
layer_place (ExprKind-F.Var variable) at = refl
layer_place (ExprKind-F.Call routine args) at = refl
layer_place (ExprKind-F.Neg operand) at = refl
layer_place (ExprKind-F.Not operand) at = refl
layer_place (ExprKind-F.Len operand) at = refl
layer_place (ExprKind-F.Binary op left right) at = refl
layer_place (ExprKind-F.Is operand t) at = refl
layer_place (ExprKind-F.Index array index) at = refl
layer_place (ExprKind-F.Field whole name) at = refl
layer_place (ExprKind-F.List items) at = refl
layer_place (ExprKind-F.Repeat item count) at = refl
layer_place (ExprKind-F.Record fields) at = refl
layer_place (ExprKind-F.Quant all variable from to body) at = refl

pub place_is : (x : e.Expr) → place_of (seen_expr x) ≡ x.at
place_is x = search (rules, e.the_lemmas, layer_place)

-- ---- statements
