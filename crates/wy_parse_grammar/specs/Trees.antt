-- Parts of trees with their heights. What is too high is only known by a place.
use Rattle.std.specs.Prelude.{ℕ, ◌+◌, max, min, nat_lt, Bool, List, [], ◌∷◌, ◌++◌, Option, Some, if◌then◌else◌}
use Rattle.wy_ast.specs.declared.types.Ty.{Ty}
use Rattle.wy_ast.specs.declared.types.TyKind.{TyKind}
use Rattle.wy_ast.specs.declared.types.TyKind.TheVariants as ty
use Rattle.wy_ast.specs.declared.expressions.Op.{Op}
use Rattle.wy_ast.specs.declared.expressions.Expr.{Expr}
use Rattle.wy_ast.specs.declared.expressions.ExprKind.{ExprKind}
use Rattle.wy_ast.specs.declared.expressions.ExprKind.TheVariants as e
use Rattle.wy_parse_grammar.specs.declared.measured.Measured.{Measured}
use Rattle.wy_parse_grammar.specs.declared.measured.Measured.TheVariants.{Low, High}

-- how high an expression or a type may be
abbrev pub highest : ℕ
highest = 100

-- one beside the other
abbrev pub both : {A B : Type 0} → Measured A → Measured B → Measured (A × B)
both (Low a h) (Low b k) = Low (a, b) (max h k)
both (Low a h) (High at) = High at
both (High at) (Low b k) = High at
both (High at) (High other) = High (min at other)

-- the part, changed into another of the same height
abbrev pub made : {A B : Type 0} → (A → B) → Measured A → Measured B
made f (Low a h) = Low (f a) h
made f (High at) = High at

-- one more in the list
abbrev pub pushed : {A : Type 0} → Measured (List A) → Measured A → Measured (List A)
pushed all part = made (λ p. p.0 ++ p.1 ∷ []) (both all part)

abbrev pub named : {A B : Type 0} → B → Measured A → Measured (B × A)
named name part = made (λ a. (name, a)) part

abbrev pub some : {A : Type 0} → Measured A → Measured (Option A)
some part = made Some part

-- nothing yet
abbrev pub none : {A : Type 0} → Measured (List A)
none = Low [] 0

-- ---- nodes of types

abbrev pub ty_node : ℕ → Measured TyKind → Measured Ty
ty_node at (Low kind h) = if nat_lt h highest then Low (record { at = at; kind = kind }) (h + 1) else High at
ty_node at (High other) = High other

abbrev pub named_ty : ℕ → List ℕ → Measured Ty
named_ty at name = ty_node at (Low (ty.Named name) 0)

abbrev pub array_ty : ℕ → Measured Ty → Measured Ty
array_ty at item = ty_node at (made ty.Array item)

abbrev pub not_ty : ℕ → Measured Ty → Measured Ty
not_ty at inner = ty_node at (made ty.Not inner)

abbrev pub union_ty : ℕ → Measured Ty → Measured Ty → Measured Ty
union_ty at a b = ty_node at (made (λ p. ty.Union p.0 p.1) (both a b))

abbrev pub inter_ty : ℕ → Measured Ty → Measured Ty → Measured Ty
inter_ty at a b = ty_node at (made (λ p. ty.Inter p.0 p.1) (both a b))

abbrev pub record_ty : ℕ → Measured (List (List ℕ × Ty)) → Measured Ty
record_ty at fields = ty_node at (made ty.Record fields)

-- ---- nodes of expressions

abbrev pub expr_node : ℕ → Measured ExprKind → Measured Expr
expr_node at (Low kind h) = if nat_lt h highest then Low (record { at = at; kind = kind }) (h + 1) else High at
expr_node at (High other) = High other

abbrev pub leaf : ℕ → ExprKind → Measured Expr
leaf at kind = expr_node at (Low kind 0)

abbrev pub neg : ℕ → Measured Expr → Measured Expr
neg at a = expr_node at (made e.Neg a)

abbrev pub not_expr : ℕ → Measured Expr → Measured Expr
not_expr at a = expr_node at (made e.Not a)

abbrev pub len : ℕ → Measured Expr → Measured Expr
len at a = expr_node at (made e.Len a)

abbrev pub binary : ℕ → Op → Measured Expr → Measured Expr → Measured Expr
binary at op a b = expr_node at (made (λ p. e.Binary op p.0 p.1) (both a b))

abbrev pub is_expr : ℕ → Measured Expr → Measured Ty → Measured Expr
is_expr at a t = expr_node at (made (λ p. e.Is p.0 p.1) (both a t))

abbrev pub index : ℕ → Measured Expr → Measured Expr → Measured Expr
index at a i = expr_node at (made (λ p. e.Index p.0 p.1) (both a i))

abbrev pub field : ℕ → Measured Expr → List ℕ → Measured Expr
field at a name = expr_node at (made (λ r. e.Field r name) a)

abbrev pub call : ℕ → List ℕ → Measured (List Expr) → Measured Expr
call at name args = expr_node at (made (λ es. e.Call name es) args)

abbrev pub list : ℕ → Measured (List Expr) → Measured Expr
list at items = expr_node at (made e.List items)

abbrev pub repeat : ℕ → Measured Expr → Measured Expr → Measured Expr
repeat at item count = expr_node at (made (λ p. e.Repeat p.0 p.1) (both item count))

abbrev pub fields : ℕ → Measured (List (List ℕ × Expr)) → Measured Expr
fields at all = expr_node at (made e.Record all)

abbrev pub range : List ℕ → Measured Expr → Measured Expr → Measured (List ℕ × Expr × Expr)
range name from to = made (λ p. (name, p.0, p.1)) (both from to)

abbrev pub quant : ℕ → Bool → Measured (List (List ℕ × Expr × Expr)) → Measured Expr → Measured Expr
quant at all ranges body = expr_node at (made (λ p. e.Quant all p.0 p.1) (both ranges body))
