-- Expressions of the core. Each definition takes the variables declared so far and gives them back with those that it declares.
use Rattle.std.specs.Prelude.{ℕ, ℤ, pos, ◌+◌, Bool, true, false, List, [], ◌∷◌, length, Option, Some, None}
use Rattle.wy_ast.specs.SurfaceTree as surface
use Rattle.wy_ast.specs.declared.expressions.Op as surface_op
use Rattle.wy_ast.specs.declared.expressions.Op.TheVariants as sop
use Rattle.wy_core.specs.CoreTree.{Expr, NullExpr, BoolExpr, IntExpr, VarExpr, NegExpr, NotExpr, LenExpr, BinaryExpr, IsExpr, IndexExpr, FieldExpr, ListExpr, RepeatExpr, RecordExpr, QuantExpr, exprs_of, fields_of}
use Rattle.wy_core.specs.declared.expressions.Op.TheVariants as op
use Rattle.wy_names_scope.specs.Scope.{Scope, entry_of}
use Rattle.wy_names_scope.specs.declared.table.Entry.{Entry}
use Rattle.wy_names_lower.specs.Variables.{Variables, declared, named, variable_of}
use Rattle.wy_names_lower.specs.Uses.{With, Template, is_used, called}
use Rattle.wy_names_lower.specs.TypesLowered.{in_ty, placed}

-- `a != b` is `!(a == b)`, and `a ==> b` is `!a || b`
abbrev pub operator : ℕ → surface_op.Op → Expr ℕ → Expr ℕ → Expr ℕ
operator at sop.Add a b = BinaryExpr at op.Add a b
operator at sop.Sub a b = BinaryExpr at op.Sub a b
operator at sop.Mul a b = BinaryExpr at op.Mul a b
operator at sop.Div a b = BinaryExpr at op.Div a b
operator at sop.Mod a b = BinaryExpr at op.Mod a b
operator at sop.Equal a b = BinaryExpr at op.Equal a b
operator at sop.NotEqual a b = NotExpr at (BinaryExpr at op.Equal a b)
operator at sop.Less a b = BinaryExpr at op.Less a b
operator at sop.LessEqual a b = BinaryExpr at op.LessEqual a b
operator at sop.Greater a b = BinaryExpr at op.Greater a b
operator at sop.GreaterEqual a b = BinaryExpr at op.GreaterEqual a b
operator at sop.And a b = BinaryExpr at op.And a b
operator at sop.Or a b = BinaryExpr at op.Or a b
operator at sop.Implies a b = BinaryExpr at op.Or (NotExpr at a) b

-- a text is the list of its bytes, all at its place
abbrev pub text : ℕ → List ℕ → List (Expr ℕ)
text at [] = []
text at (b ∷ bs) = IntExpr at (pos b) ∷ text at bs

-- a range of a quantifier: its variable, its first number, and the number behind its last
pub record Head : Type 0 where
  pub variable : ℕ
  pub from : Expr ℕ
  pub to : Expr ℕ

-- a quantifier of one range
abbrev pub quant_of : ℕ → Bool → Head → Expr ℕ → Expr ℕ
quant_of at all h body = QuantExpr at all h.variable h.from h.to body

-- a quantifier of the first range over one of the others, and the body last
abbrev pub quantified : ℕ → Bool → List Head → Expr ℕ → Expr ℕ
quantified at all [] body = body
quantified at all (h ∷ hs) body = quant_of at all h (quantified at all hs body)

-- what is made of one part, of a second part behind a first, and of a list
abbrev pub one : {X Y : Type 0} → (X → Y) → With X → With Y
one f x = (x.0, f x.1)

abbrev pub more : {X : Type 0} → X → With (List X) → With (List X)
more e x = (x.0, e ∷ x.1)

-- an argument that is used, or nothing in its stead
abbrev pub kept : Bool → Variables → With (Expr ℕ) → With (Expr ℕ)
kept true vs x = x
kept false vs x = (vs, NullExpr 0)

-- the scope and the variables behind ranges, and the ranges
abbrev pub Ranged : Type 0
Ranged = Scope × Variables × List Head

abbrev pub more_heads : Head → Ranged → Ranged
more_heads h x = (x.0, x.1, h ∷ x.2)

abbrev mutual
  -- the core of the expression
  pub in_expr : List Template → Scope → Variables → surface.Expr → With (Expr ℕ)
  in_expr ts s vs (surface.NullExpr at) = (vs, NullExpr at)
  in_expr ts s vs (surface.BoolExpr at b) = (vs, BoolExpr at b)
  in_expr ts s vs (surface.IntExpr at z) = (vs, IntExpr at z)
  in_expr ts s vs (surface.TextExpr at bytes) = (vs, ListExpr at (exprs_of (text at bytes)))
  in_expr ts s vs (surface.VarExpr at name) = (vs, VarExpr at (variable_of (entry_of s name)))
  in_expr ts s vs (surface.CallExpr at name args) =
      called ts at (entry_of s name) (in_args ts s vs (entry_of s name) 0 args).0 (in_args ts s vs (entry_of s name) 0 args).1
  in_expr ts s vs (surface.NegExpr at a) = one (NegExpr at) (in_expr ts s vs a)
  in_expr ts s vs (surface.NotExpr at a) = one (NotExpr at) (in_expr ts s vs a)
  in_expr ts s vs (surface.LenExpr at a) = one (LenExpr at) (in_expr ts s vs a)
  in_expr ts s vs (surface.BinaryExpr at o a b) = one (operator at o (in_expr ts s vs a).1) (in_expr ts s (in_expr ts s vs a).0 b)
  in_expr ts s vs (surface.IsExpr at a t) = one (λ e. IsExpr at e (in_ty s t)) (in_expr ts s vs a)
  in_expr ts s vs (surface.IndexExpr at a b) = one (IndexExpr at (in_expr ts s vs a).1) (in_expr ts s (in_expr ts s vs a).0 b)
  in_expr ts s vs (surface.FieldExpr at a name) = one (λ e. FieldExpr at e name) (in_expr ts s vs a)
  in_expr ts s vs (surface.ListExpr at es) = one (λ xs. ListExpr at (exprs_of xs)) (in_exprs ts s vs es)
  in_expr ts s vs (surface.RepeatExpr at a b) = one (RepeatExpr at (in_expr ts s vs a).1) (in_expr ts s (in_expr ts s vs a).0 b)
  in_expr ts s vs (surface.RecordExpr at fs) = one (λ xs. RecordExpr at (fields_of xs)) (in_fields ts s vs [] fs)
  in_expr ts s vs (surface.QuantExpr at all rs body) =
      one (quantified at all (in_ranges ts s vs rs).2) (in_expr ts (in_ranges ts s vs rs).0 (in_ranges ts s vs rs).1 body)

  pub in_exprs : List Template → Scope → Variables → surface.Exprs → With (List (Expr ℕ))
  in_exprs ts s vs surface.NoExprs = (vs, [])
  in_exprs ts s vs (surface.MoreExprs e rest) = more (in_expr ts s vs e).1 (in_exprs ts s (in_expr ts s vs e).0 rest)

  -- arguments of the callee, from the one with this number on. One that isn't used is not lowered
  pub in_args : List Template → Scope → Variables → Option Entry → ℕ → surface.Exprs → With (List (Expr ℕ))
  in_args ts s vs callee i surface.NoExprs = (vs, [])
  in_args ts s vs callee i (surface.MoreExprs e rest) =
      more (kept (is_used ts callee i) vs (in_expr ts s vs e)).1 (in_args ts s (kept (is_used ts callee i) vs (in_expr ts s vs e)).0 callee (i + 1) rest)

  -- further fields put among others
  pub in_fields : List Template → Scope → Variables → List (List ℕ × Expr ℕ) → surface.Fields → With (List (List ℕ × Expr ℕ))
  in_fields ts s vs made surface.NoFields = (vs, made)
  in_fields ts s vs made (surface.MoreFields name e rest) = in_fields ts s (in_expr ts s vs e).0 (placed made name (in_expr ts s vs e).1) rest

  -- ranges, each of whose variables is declared behind it
  pub in_ranges : List Template → Scope → Variables → surface.Ranges → Ranged
  in_ranges ts s vs surface.NoRanges = (s, vs, [])
  in_ranges ts s vs (surface.MoreRanges name from to rest) =
      more_heads
      (record { variable = length (in_expr ts s (in_expr ts s vs from).0 to).0; from = (in_expr ts s vs from).1; to = (in_expr ts s (in_expr ts s vs from).0 to).1 })
      (in_ranges ts (declared s (in_expr ts s (in_expr ts s vs from).0 to).0 name) (named (in_expr ts s (in_expr ts s vs from).0 to).0 name) rest)

-- the same for an operator between two operands, an index, a repeated item and a quantifier; `null` for others
abbrev pub several : List Template → Scope → Variables → surface.Expr → With (Expr ℕ)
several ts s vs (surface.BinaryExpr at o a b) = one (operator at o (in_expr ts s vs a).1) (in_expr ts s (in_expr ts s vs a).0 b)
several ts s vs (surface.IndexExpr at a b) = one (IndexExpr at (in_expr ts s vs a).1) (in_expr ts s (in_expr ts s vs a).0 b)
several ts s vs (surface.RepeatExpr at a b) = one (RepeatExpr at (in_expr ts s vs a).1) (in_expr ts s (in_expr ts s vs a).0 b)
several ts s vs (surface.QuantExpr at all rs body) =
    one (quantified at all (in_ranges ts s vs rs).2) (in_expr ts (in_ranges ts s vs rs).0 (in_ranges ts s vs rs).1 body)
several ts s vs e = (vs, NullExpr 0)
