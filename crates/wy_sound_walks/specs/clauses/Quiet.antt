-- Expressions that call nothing.
use Rattle.wy_core.specs.CoreTree.{Expr, NullExpr, BoolExpr, IntExpr, VarExpr, CallExpr, NegExpr, NotExpr, LenExpr, BinaryExpr, IsExpr, IndexExpr, FieldExpr, ListExpr, RepeatExpr, RecordExpr, QuantExpr, Exprs, NoExprs, MoreExprs, Fields, NoFields, MoreFields}

abbrev mutual
  pub CallsNothing : {N : Type 0} → Expr N → Type 0
  CallsNothing (NullExpr n) = Unit {0}
  CallsNothing (BoolExpr n b) = Unit {0}
  CallsNothing (IntExpr n z) = Unit {0}
  CallsNothing (VarExpr n x) = Unit {0}
  CallsNothing (CallExpr n f es) = ⊥
  CallsNothing (NegExpr n a) = CallsNothing a
  CallsNothing (NotExpr n a) = CallsNothing a
  CallsNothing (LenExpr n a) = CallsNothing a
  CallsNothing (BinaryExpr n o a b) = CallsNothing a × CallsNothing b
  CallsNothing (IsExpr n a t) = CallsNothing a
  CallsNothing (IndexExpr n a b) = CallsNothing a × CallsNothing b
  CallsNothing (FieldExpr n a name) = CallsNothing a
  CallsNothing (ListExpr n es) = AllCallNothing es
  CallsNothing (RepeatExpr n a b) = CallsNothing a × CallsNothing b
  CallsNothing (RecordExpr n fs) = FieldsCallNothing fs
  CallsNothing (QuantExpr n all x a b body) = CallsNothing a × CallsNothing b × CallsNothing body

  pub AllCallNothing : {N : Type 0} → Exprs N → Type 0
  AllCallNothing NoExprs = Unit {0}
  AllCallNothing (MoreExprs e es) = CallsNothing e × AllCallNothing es

  pub FieldsCallNothing : {N : Type 0} → Fields N → Type 0
  FieldsCallNothing NoFields = Unit {0}
  FieldsCallNothing (MoreFields name e fs) = CallsNothing e × FieldsCallNothing fs
