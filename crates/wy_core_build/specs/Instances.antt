-- A property's clauses at a use of it: the arguments stand for the parameters, which are the variables from 0 on, and the other variables have new numbers.
use Rattle.std.specs.Prelude.{ℕ, ◌+◌, ◌-◌, Bool, true, false, List, [], ◌∷◌, length, Option, Some, None, slice_get}
use Rattle.wy_core.specs.CoreTree.{Expr, Exprs, Fields, NullExpr, BoolExpr, IntExpr, VarExpr, CallExpr, NegExpr, NotExpr, LenExpr, BinaryExpr, IsExpr, IndexExpr, FieldExpr, ListExpr, RepeatExpr, RecordExpr, QuantExpr, NoExprs, MoreExprs, NoFields, MoreFields}
use Rattle.wy_core.specs.declared.expressions.Op.TheVariants as op

-- a variable that is no parameter, by its new number
abbrev pub renumbered : List (Expr ℕ) → ℕ → ℕ → ℕ
renumbered args base n = (n - length args) + base

abbrev pub argument_or : Expr ℕ → Option (Expr ℕ) → Expr ℕ
argument_or other None = other
argument_or other (Some arg) = arg

-- a parameter's argument, or another variable by its new number
abbrev pub variable : ℕ → List (Expr ℕ) → ℕ → ℕ → Expr ℕ
variable at args base n = argument_or (VarExpr at (renumbered args base n)) (slice_get args n)

abbrev mutual
  -- the clause once more, its nodes at the place of the use; an argument's nodes keep their places
  pub instance_of : ℕ → List (Expr ℕ) → ℕ → Expr ℕ → Expr ℕ
  instance_of at args base (NullExpr n) = NullExpr at
  instance_of at args base (BoolExpr n b) = BoolExpr at b
  instance_of at args base (IntExpr n z) = IntExpr at z
  instance_of at args base (VarExpr n v) = variable at args base v
  instance_of at args base (CallExpr n routine es) = CallExpr at routine (instances at args base es)
  instance_of at args base (NegExpr n a) = NegExpr at (instance_of at args base a)
  instance_of at args base (NotExpr n a) = NotExpr at (instance_of at args base a)
  instance_of at args base (LenExpr n a) = LenExpr at (instance_of at args base a)
  instance_of at args base (BinaryExpr n o a b) = BinaryExpr at o (instance_of at args base a) (instance_of at args base b)
  instance_of at args base (IsExpr n a t) = IsExpr at (instance_of at args base a) t
  instance_of at args base (IndexExpr n a b) = IndexExpr at (instance_of at args base a) (instance_of at args base b)
  instance_of at args base (FieldExpr n a name) = FieldExpr at (instance_of at args base a) name
  instance_of at args base (ListExpr n es) = ListExpr at (instances at args base es)
  instance_of at args base (RepeatExpr n a b) = RepeatExpr at (instance_of at args base a) (instance_of at args base b)
  instance_of at args base (RecordExpr n fs) = RecordExpr at (instance_fields at args base fs)
  instance_of at args base (QuantExpr n all v from to body) =
      QuantExpr at all (renumbered args base v) (instance_of at args base from) (instance_of at args base to) (instance_of at args base body)

  pub instances : ℕ → List (Expr ℕ) → ℕ → Exprs ℕ → Exprs ℕ
  instances at args base NoExprs = NoExprs
  instances at args base (MoreExprs e rest) = MoreExprs (instance_of at args base e) (instances at args base rest)

  pub instance_fields : ℕ → List (Expr ℕ) → ℕ → Fields ℕ → Fields ℕ
  instance_fields at args base NoFields = NoFields
  instance_fields at args base (MoreFields name e rest) = MoreFields name (instance_of at args base e) (instance_fields at args base rest)

-- the same for an operator between two operands, an index, a repeated item and a quantifier; `null` for others
abbrev pub several : ℕ → List (Expr ℕ) → ℕ → Expr ℕ → Expr ℕ
several at args base (BinaryExpr n o a b) = BinaryExpr at o (instance_of at args base a) (instance_of at args base b)
several at args base (IndexExpr n a b) = IndexExpr at (instance_of at args base a) (instance_of at args base b)
several at args base (RepeatExpr n a b) = RepeatExpr at (instance_of at args base a) (instance_of at args base b)
several at args base (QuantExpr n all v from to body) =
    QuantExpr at all (renumbered args base v) (instance_of at args base from) (instance_of at args base to) (instance_of at args base body)
several at args base e = NullExpr at

-- further clauses behind an expression, which counts only where it isn't the first, joined by `&&` from the left
abbrev pub joined_behind : ℕ → List (Expr ℕ) → ℕ → Bool → Expr ℕ → List (Expr ℕ) → Expr ℕ
joined_behind at args base first e [] = e
joined_behind at args base true e (c ∷ cs) = joined_behind at args base false (instance_of at args base c) cs
joined_behind at args base false e (c ∷ cs) = joined_behind at args base false (BinaryExpr at op.And e (instance_of at args base c)) cs

-- the clauses with these arguments, joined by `&&` from the left
abbrev pub joined : ℕ → List (Expr ℕ) → ℕ → List (Expr ℕ) → Expr ℕ
joined at args base clauses = joined_behind at args base true (BoolExpr at true) clauses
