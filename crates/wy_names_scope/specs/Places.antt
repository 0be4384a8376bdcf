-- Where a type or an expression stands.
use Rattle.std.specs.Prelude.{ℕ}
use Rattle.wy_ast.specs.SurfaceTree.{Ty, NullTy, BoolTy, IntTy, AnyTy, VoidTy, RecordTy, ArrayTy, UnionTy, InterTy, NotTy, NamedTy}
use Rattle.wy_ast.specs.SurfaceTree.{Expr, NullExpr, BoolExpr, IntExpr, TextExpr, VarExpr, CallExpr, NegExpr, NotExpr, LenExpr, BinaryExpr, IsExpr, IndexExpr, FieldExpr, ListExpr, RepeatExpr, RecordExpr, QuantExpr}

-- the place of a type
abbrev pub place_of_ty : Ty → ℕ
place_of_ty (NullTy at) = at
place_of_ty (BoolTy at) = at
place_of_ty (IntTy at) = at
place_of_ty (AnyTy at) = at
place_of_ty (VoidTy at) = at
place_of_ty (RecordTy at fs) = at
place_of_ty (ArrayTy at item) = at
place_of_ty (UnionTy at a b) = at
place_of_ty (InterTy at a b) = at
place_of_ty (NotTy at t) = at
place_of_ty (NamedTy at name) = at

-- the place of an expression
abbrev pub place_of_expr : Expr → ℕ
place_of_expr (NullExpr at) = at
place_of_expr (BoolExpr at b) = at
place_of_expr (IntExpr at z) = at
place_of_expr (TextExpr at bytes) = at
place_of_expr (VarExpr at name) = at
place_of_expr (CallExpr at name args) = at
place_of_expr (NegExpr at a) = at
place_of_expr (NotExpr at a) = at
place_of_expr (LenExpr at a) = at
place_of_expr (BinaryExpr at op a b) = at
place_of_expr (IsExpr at a t) = at
place_of_expr (IndexExpr at a b) = at
place_of_expr (FieldExpr at a name) = at
place_of_expr (ListExpr at items) = at
place_of_expr (RepeatExpr at a b) = at
place_of_expr (RecordExpr at fs) = at
place_of_expr (QuantExpr at all rs body) = at
