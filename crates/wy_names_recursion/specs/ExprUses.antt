-- The properties that a clause uses and the types that its tests mention, in the order of the source.
use Rattle.std.specs.Prelude.{ℕ}
use Rattle.wy_ast.specs.SurfaceTree.{Expr, Exprs, Fields, Ranges, NullExpr, BoolExpr, IntExpr, TextExpr, VarExpr, CallExpr, NegExpr, NotExpr, LenExpr, BinaryExpr, IsExpr, IndexExpr, FieldExpr, ListExpr, RepeatExpr, RecordExpr, QuantExpr, NoExprs, MoreExprs, NoFields, MoreFields, NoRanges, MoreRanges}
use Rattle.wy_names_scope.specs.Scope.{Scope, entry_of}
use Rattle.wy_names_recursion.specs.declared.edges.Way.TheVariants as way
use Rattle.wy_names_recursion.specs.Uses.{Edges, property_named}
use Rattle.wy_names_recursion.specs.TypeUses.{in_ty}

abbrev mutual
  -- the properties that the clause uses, and the types that its tests mention
  pub in_expr : Scope → ℕ → Expr → Edges → Edges
  in_expr s from (NullExpr at) edges = edges
  in_expr s from (BoolExpr at b) edges = edges
  in_expr s from (IntExpr at z) edges = edges
  in_expr s from (TextExpr at bytes) edges = edges
  in_expr s from (VarExpr at name) edges = edges
  in_expr s from (CallExpr at name args) edges = in_exprs s from args (property_named from at (entry_of s name) edges)
  in_expr s from (NegExpr at a) edges = in_expr s from a edges
  in_expr s from (NotExpr at a) edges = in_expr s from a edges
  in_expr s from (LenExpr at a) edges = in_expr s from a edges
  in_expr s from (BinaryExpr at o a b) edges = in_expr s from b (in_expr s from a edges)
  in_expr s from (IsExpr at a t) edges = in_ty s from way.Mention t (in_expr s from a edges)
  in_expr s from (IndexExpr at a b) edges = in_expr s from b (in_expr s from a edges)
  in_expr s from (FieldExpr at a name) edges = in_expr s from a edges
  in_expr s from (ListExpr at es) edges = in_exprs s from es edges
  in_expr s from (RepeatExpr at a b) edges = in_expr s from b (in_expr s from a edges)
  in_expr s from (RecordExpr at fs) edges = in_values s from fs edges
  in_expr s from (QuantExpr at all rs body) edges = in_expr s from body (in_ranges s from rs edges)

  pub in_exprs : Scope → ℕ → Exprs → Edges → Edges
  in_exprs s from NoExprs edges = edges
  in_exprs s from (MoreExprs e rest) edges = in_exprs s from rest (in_expr s from e edges)

  pub in_values : Scope → ℕ → Fields → Edges → Edges
  in_values s from NoFields edges = edges
  in_values s from (MoreFields name e rest) edges = in_values s from rest (in_expr s from e edges)

  pub in_ranges : Scope → ℕ → Ranges → Edges → Edges
  in_ranges s from NoRanges edges = edges
  in_ranges s from (MoreRanges name a b rest) edges = in_ranges s from rest (in_expr s from b (in_expr s from a edges))
