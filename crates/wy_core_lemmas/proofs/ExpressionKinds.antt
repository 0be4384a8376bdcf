-- What an expression stands for, by its kind, where its parts were read by reference.
use Rattle.std.proofs.Common.{◌≡◌, ◌∙◌, ℕ, ℤ, List, Bool, sym, ap, rules}
use Rattle.wy_core.specs.CoreSeen.{seen_expr, seen_exprs, seen_fields, seen_ty}
use Rattle.wy_core.specs.CoreTree as tree
use Rattle.wy_core.specs.declared.expressions.Expr as e
use Rattle.wy_core.specs.declared.expressions.ExprKind as kind
use Rattle.wy_core.specs.declared.expressions.Op.{Op}
use Rattle.wy_core.specs.declared.types.Ty.{Ty}

pub null_of : (x : e.Expr) → x.kind ≡ kind.Null → seen_expr x ≡ tree.NullExpr x.at
null_of x is = search (rules, e.the_lemmas)

pub bool_of : (x : e.Expr) (truth : Bool) → x.kind ≡ kind.Bool truth → seen_expr x ≡ tree.BoolExpr x.at truth
bool_of x truth is = search (rules, e.the_lemmas)

pub int_of : (x : e.Expr) (number : ℤ) → x.kind ≡ kind.Int number → seen_expr x ≡ tree.IntExpr x.at number
int_of x number is = search (rules, e.the_lemmas)

pub var_of : (x : e.Expr) (v : ℕ) → x.kind ≡ kind.Var v → seen_expr x ≡ tree.VarExpr x.at v
var_of x v is = search (rules, e.the_lemmas)

call_itself : (x : e.Expr) (r : ℕ) (args : List e.Expr) → x.kind ≡ kind.Call r args → seen_expr x ≡ tree.CallExpr x.at r (tree.exprs_of (seen_exprs args))
call_itself x r args is = search (rules, e.the_lemmas)

pub call_of : (x : e.Expr) (r : ℕ) (args : List e.Expr) (args2 : List e.Expr) → x.kind ≡ kind.Call r args → args2 ≡ args → seen_expr x ≡ tree.CallExpr x.at r (tree.exprs_of (seen_exprs args2))
call_of x r args args2 is args_same = call_itself x r args is ∙ ap (λ (z : List e.Expr). tree.CallExpr x.at r (tree.exprs_of (seen_exprs z))) (sym args_same)

neg_itself : (x : e.Expr) (a : e.Expr) → x.kind ≡ kind.Neg a → seen_expr x ≡ tree.NegExpr x.at (seen_expr a)
neg_itself x a is = search (rules, e.the_lemmas)

pub neg_of : (x : e.Expr) (a : e.Expr) (a2 : e.Expr) → x.kind ≡ kind.Neg a → a2 ≡ a → seen_expr x ≡ tree.NegExpr x.at (seen_expr a2)
neg_of x a a2 is a_same = neg_itself x a is ∙ ap (λ (z : e.Expr). tree.NegExpr x.at (seen_expr z)) (sym a_same)

not_itself : (x : e.Expr) (a : e.Expr) → x.kind ≡ kind.Not a → seen_expr x ≡ tree.NotExpr x.at (seen_expr a)
not_itself x a is = search (rules, e.the_lemmas)

pub not_of : (x : e.Expr) (a : e.Expr) (a2 : e.Expr) → x.kind ≡ kind.Not a → a2 ≡ a → seen_expr x ≡ tree.NotExpr x.at (seen_expr a2)
not_of x a a2 is a_same = not_itself x a is ∙ ap (λ (z : e.Expr). tree.NotExpr x.at (seen_expr z)) (sym a_same)

len_itself : (x : e.Expr) (a : e.Expr) → x.kind ≡ kind.Len a → seen_expr x ≡ tree.LenExpr x.at (seen_expr a)
len_itself x a is = search (rules, e.the_lemmas)

pub len_of : (x : e.Expr) (a : e.Expr) (a2 : e.Expr) → x.kind ≡ kind.Len a → a2 ≡ a → seen_expr x ≡ tree.LenExpr x.at (seen_expr a2)
len_of x a a2 is a_same = len_itself x a is ∙ ap (λ (z : e.Expr). tree.LenExpr x.at (seen_expr z)) (sym a_same)

binary_itself : (x : e.Expr) (op : Op) (a : e.Expr) (b : e.Expr) → x.kind ≡ kind.Binary op a b → seen_expr x ≡ tree.BinaryExpr x.at op (seen_expr a) (seen_expr b)
binary_itself x op a b is = search (rules, e.the_lemmas)

pub binary_of : (x : e.Expr) (op : Op) (a : e.Expr) (a2 : e.Expr) (b : e.Expr) (b2 : e.Expr) → x.kind ≡ kind.Binary op a b → a2 ≡ a → b2 ≡ b → seen_expr x ≡ tree.BinaryExpr x.at op (seen_expr a2) (seen_expr b2)
binary_of x op a a2 b b2 is a_same b_same = binary_itself x op a b is ∙ ap (λ (z : e.Expr). tree.BinaryExpr x.at op (seen_expr z) (seen_expr b)) (sym a_same) ∙ ap (λ (z : e.Expr). tree.BinaryExpr x.at op (seen_expr a2) (seen_expr z)) (sym b_same)

is_itself : (x : e.Expr) (a : e.Expr) (t : Ty) → x.kind ≡ kind.Is a t → seen_expr x ≡ tree.IsExpr x.at (seen_expr a) (seen_ty t)
is_itself x a t is = search (rules, e.the_lemmas)

pub is_of : (x : e.Expr) (a : e.Expr) (a2 : e.Expr) (t : Ty) → x.kind ≡ kind.Is a t → a2 ≡ a → seen_expr x ≡ tree.IsExpr x.at (seen_expr a2) (seen_ty t)
is_of x a a2 t is a_same = is_itself x a t is ∙ ap (λ (z : e.Expr). tree.IsExpr x.at (seen_expr z) (seen_ty t)) (sym a_same)

index_itself : (x : e.Expr) (a : e.Expr) (b : e.Expr) → x.kind ≡ kind.Index a b → seen_expr x ≡ tree.IndexExpr x.at (seen_expr a) (seen_expr b)
index_itself x a b is = search (rules, e.the_lemmas)

pub index_of : (x : e.Expr) (a : e.Expr) (a2 : e.Expr) (b : e.Expr) (b2 : e.Expr) → x.kind ≡ kind.Index a b → a2 ≡ a → b2 ≡ b → seen_expr x ≡ tree.IndexExpr x.at (seen_expr a2) (seen_expr b2)
index_of x a a2 b b2 is a_same b_same = index_itself x a b is ∙ ap (λ (z : e.Expr). tree.IndexExpr x.at (seen_expr z) (seen_expr b)) (sym a_same) ∙ ap (λ (z : e.Expr). tree.IndexExpr x.at (seen_expr a2) (seen_expr z)) (sym b_same)

field_itself : (x : e.Expr) (a : e.Expr) (f : List ℕ) → x.kind ≡ kind.Field a f → seen_expr x ≡ tree.FieldExpr x.at (seen_expr a) f
field_itself x a f is = search (rules, e.the_lemmas)

pub field_of : (x : e.Expr) (a : e.Expr) (a2 : e.Expr) (f : List ℕ) → x.kind ≡ kind.Field a f → a2 ≡ a → seen_expr x ≡ tree.FieldExpr x.at (seen_expr a2) f
field_of x a a2 f is a_same = field_itself x a f is ∙ ap (λ (z : e.Expr). tree.FieldExpr x.at (seen_expr z) f) (sym a_same)

list_itself : (x : e.Expr) (items : List e.Expr) → x.kind ≡ kind.List items → seen_expr x ≡ tree.ListExpr x.at (tree.exprs_of (seen_exprs items))
list_itself x items is = search (rules, e.the_lemmas)

pub list_of : (x : e.Expr) (items : List e.Expr) (items2 : List e.Expr) → x.kind ≡ kind.List items → items2 ≡ items → seen_expr x ≡ tree.ListExpr x.at (tree.exprs_of (seen_exprs items2))
list_of x items items2 is items_same = list_itself x items is ∙ ap (λ (z : List e.Expr). tree.ListExpr x.at (tree.exprs_of (seen_exprs z))) (sym items_same)

repeat_itself : (x : e.Expr) (a : e.Expr) (b : e.Expr) → x.kind ≡ kind.Repeat a b → seen_expr x ≡ tree.RepeatExpr x.at (seen_expr a) (seen_expr b)
repeat_itself x a b is = search (rules, e.the_lemmas)

pub repeat_of : (x : e.Expr) (a : e.Expr) (a2 : e.Expr) (b : e.Expr) (b2 : e.Expr) → x.kind ≡ kind.Repeat a b → a2 ≡ a → b2 ≡ b → seen_expr x ≡ tree.RepeatExpr x.at (seen_expr a2) (seen_expr b2)
repeat_of x a a2 b b2 is a_same b_same = repeat_itself x a b is ∙ ap (λ (z : e.Expr). tree.RepeatExpr x.at (seen_expr z) (seen_expr b)) (sym a_same) ∙ ap (λ (z : e.Expr). tree.RepeatExpr x.at (seen_expr a2) (seen_expr z)) (sym b_same)

record_itself : (x : e.Expr) (fs : List (List ℕ × e.Expr)) → x.kind ≡ kind.Record fs → seen_expr x ≡ tree.RecordExpr x.at (seen_fields fs)
record_itself x fs is = search (rules, e.the_lemmas)

pub record_of : (x : e.Expr) (fs : List (List ℕ × e.Expr)) (fs2 : List (List ℕ × e.Expr)) → x.kind ≡ kind.Record fs → fs2 ≡ fs → seen_expr x ≡ tree.RecordExpr x.at (seen_fields fs2)
record_of x fs fs2 is fs_same = record_itself x fs is ∙ ap (λ (z : List (List ℕ × e.Expr)). tree.RecordExpr x.at (seen_fields z)) (sym fs_same)

quant_itself : (x : e.Expr) (all : Bool) (v : ℕ) (a : e.Expr) (b : e.Expr) (body : e.Expr) → x.kind ≡ kind.Quant all v a b body → seen_expr x ≡ tree.QuantExpr x.at all v (seen_expr a) (seen_expr b) (seen_expr body)
quant_itself x all v a b body is = search (rules, e.the_lemmas)

pub quant_of : (x : e.Expr) (all : Bool) (v : ℕ) (a : e.Expr) (a2 : e.Expr) (b : e.Expr) (b2 : e.Expr) (body : e.Expr) (body2 : e.Expr) → x.kind ≡ kind.Quant all v a b body → a2 ≡ a → b2 ≡ b → body2 ≡ body → seen_expr x ≡ tree.QuantExpr x.at all v (seen_expr a2) (seen_expr b2) (seen_expr body2)
quant_of x all v a a2 b b2 body body2 is a_same b_same body_same = quant_itself x all v a b body is ∙ ap (λ (z : e.Expr). tree.QuantExpr x.at all v (seen_expr z) (seen_expr b) (seen_expr body)) (sym a_same) ∙ ap (λ (z : e.Expr). tree.QuantExpr x.at all v (seen_expr a2) (seen_expr z) (seen_expr body)) (sym b_same) ∙ ap (λ (z : e.Expr). tree.QuantExpr x.at all v (seen_expr a2) (seen_expr b2) (seen_expr z)) (sym body_same)
