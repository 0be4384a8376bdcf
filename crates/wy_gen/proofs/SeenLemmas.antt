-- What a node of a tree stands for, by its kind.
use Rattle.std.proofs.Common.{◌≡◌, ℕ, List, Bool, map, rules}
use Rattle.wy_core.specs.CoreSeen.{field_tys_of, seen_ty, seen_expr, seen_exprs, seen_fields}
use Rattle.wy_core.specs.CoreTree as tree
use Rattle.wy_core.specs.Types as types
use Rattle.wy_core.specs.declared.types.Ty as t
use Rattle.wy_core.specs.declared.types.Ty.{Ty}
use Rattle.wy_core.specs.declared.types.TyKind as ty_kind
use Rattle.wy_core.specs.declared.expressions.Op.{Op}
use Rattle.wy_core.specs.declared.expressions.Expr as e
use Rattle.wy_core.specs.declared.expressions.Expr.{Expr}
use Rattle.wy_core.specs.declared.expressions.ExprKind as kind

-- ---- types

pub seen_record_ty : (x : Ty) (fs : List (List ℕ × Ty)) → x.kind ≡ ty_kind.Record fs → seen_ty x ≡ types.RecordTy (field_tys_of (map (λ f. (f.0, seen_ty f.1)) fs))
seen_record_ty x fs is = search (rules, t.the_lemmas)

pub seen_array_ty : (x a : Ty) → x.kind ≡ ty_kind.Array a → seen_ty x ≡ types.ArrayTy (seen_ty a)
seen_array_ty x a is = search (rules, t.the_lemmas)

pub seen_union : (x a b : Ty) → x.kind ≡ ty_kind.Union a b → seen_ty x ≡ types.UnionTy (seen_ty a) (seen_ty b)
seen_union x a b is = search (rules, t.the_lemmas)

pub seen_inter : (x a b : Ty) → x.kind ≡ ty_kind.Inter a b → seen_ty x ≡ types.InterTy (seen_ty a) (seen_ty b)
seen_inter x a b is = search (rules, t.the_lemmas)

pub seen_not_ty : (x a : Ty) → x.kind ≡ ty_kind.Not a → seen_ty x ≡ types.NotTy (seen_ty a)
seen_not_ty x a is = search (rules, t.the_lemmas)

-- ---- expressions

pub seen_call : (x : Expr) (f : ℕ) (es : List Expr) → x.kind ≡ kind.Call f es → seen_expr x ≡ tree.CallExpr x.at f (tree.exprs_of (seen_exprs es))
seen_call x f es is = search (rules, e.the_lemmas)

pub seen_neg : (x a : Expr) → x.kind ≡ kind.Neg a → seen_expr x ≡ tree.NegExpr x.at (seen_expr a)
seen_neg x a is = search (rules, e.the_lemmas)

pub seen_not : (x a : Expr) → x.kind ≡ kind.Not a → seen_expr x ≡ tree.NotExpr x.at (seen_expr a)
seen_not x a is = search (rules, e.the_lemmas)

pub seen_len : (x a : Expr) → x.kind ≡ kind.Len a → seen_expr x ≡ tree.LenExpr x.at (seen_expr a)
seen_len x a is = search (rules, e.the_lemmas)

pub seen_binary : (x : Expr) (o : Op) (a b : Expr) → x.kind ≡ kind.Binary o a b → seen_expr x ≡ tree.BinaryExpr x.at o (seen_expr a) (seen_expr b)
seen_binary x o a b is = search (rules, e.the_lemmas)

pub seen_is : (x a : Expr) (ty : Ty) → x.kind ≡ kind.Is a ty → seen_expr x ≡ tree.IsExpr x.at (seen_expr a) (seen_ty ty)
seen_is x a ty is = search (rules, e.the_lemmas)

pub seen_index : (x a b : Expr) → x.kind ≡ kind.Index a b → seen_expr x ≡ tree.IndexExpr x.at (seen_expr a) (seen_expr b)
seen_index x a b is = search (rules, e.the_lemmas)

pub seen_field : (x a : Expr) (name : List ℕ) → x.kind ≡ kind.Field a name → seen_expr x ≡ tree.FieldExpr x.at (seen_expr a) name
seen_field x a name is = search (rules, e.the_lemmas)

pub seen_list : (x : Expr) (es : List Expr) → x.kind ≡ kind.List es → seen_expr x ≡ tree.ListExpr x.at (tree.exprs_of (seen_exprs es))
seen_list x es is = search (rules, e.the_lemmas)

pub seen_repeat : (x a b : Expr) → x.kind ≡ kind.Repeat a b → seen_expr x ≡ tree.RepeatExpr x.at (seen_expr a) (seen_expr b)
seen_repeat x a b is = search (rules, e.the_lemmas)

pub seen_record : (x : Expr) (fs : List (List ℕ × Expr)) → x.kind ≡ kind.Record fs → seen_expr x ≡ tree.RecordExpr x.at (seen_fields fs)
seen_record x fs is = search (rules, e.the_lemmas)

pub seen_quant : (x : Expr) (all : Bool) (variable : ℕ) (a b body : Expr) → x.kind ≡ kind.Quant all variable a b body → seen_expr x ≡ tree.QuantExpr x.at all variable (seen_expr a) (seen_expr b) (seen_expr body)
seen_quant x all variable a b body is = search (rules, e.the_lemmas)
