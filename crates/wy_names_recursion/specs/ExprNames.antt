-- The faults of names in expressions.
use Rattle.std.specs.Prelude.{ℕ, ◌+◌, not, true, []}
use Rattle.wy_ast.specs.SurfaceTree.{Expr, Exprs, Fields, Ranges, NullExpr, BoolExpr, IntExpr, TextExpr, VarExpr, CallExpr, NegExpr, NotExpr, LenExpr, BinaryExpr, IsExpr, IndexExpr, FieldExpr, ListExpr, RepeatExpr, RecordExpr, QuantExpr, NoExprs, MoreExprs, NoFields, MoreFields, NoRanges, MoreRanges}
use Rattle.wy_names_scope.specs.declared.fault.Cause.TheVariants as cause
use Rattle.wy_names_scope.specs.Faults.{Found, noted_where}
use Rattle.wy_names_scope.specs.Scope.{Scope, entry_of, has, with_name}
use Rattle.wy_names_scope.specs.Places.{place_of_expr}
use Rattle.wy_names_recursion.specs.declared.context.Context.{Context}
use Rattle.wy_names_recursion.specs.Calls.{contract, call, is_variable}
use Rattle.wy_names_recursion.specs.TypeNames.{in_ty, just_a_name}

-- how many expressions there are
abbrev pub count_of : Exprs → ℕ
count_of NoExprs = 0
count_of (MoreExprs e rest) = count_of rest + 1

-- the scope behind ranges
abbrev pub with_ranges : Scope → Ranges → Scope
with_ranges scope NoRanges = scope
with_ranges scope (MoreRanges name from to rest) = with_ranges (with_name scope name just_a_name) rest

abbrev mutual
  -- the faults of the expression, with those found before
  pub in_expr : Context → Scope → Expr → Found → Found
  in_expr c scope (NullExpr at) found = found
  in_expr c scope (BoolExpr at b) found = found
  in_expr c scope (IntExpr at z) found = found
  in_expr c scope (TextExpr at bytes) found = found
  in_expr c scope (VarExpr at name) found = noted_where (not (is_variable (entry_of scope name))) found at cause.Unknown
  in_expr c scope (CallExpr at name args) found = in_exprs c scope args (call c true (entry_of scope name) (count_of args) at found)
  in_expr c scope (NegExpr at a) found = in_expr c scope a found
  in_expr c scope (NotExpr at a) found = in_expr c scope a found
  in_expr c scope (LenExpr at a) found = in_expr c scope a found
  in_expr c scope (BinaryExpr at op a b) found = in_expr c scope b (in_expr c scope a found)
  in_expr c scope (IsExpr at a t) found = in_ty scope t (in_expr c scope a found)
  in_expr c scope (IndexExpr at a b) found = in_expr c scope b (in_expr c scope a found)
  in_expr c scope (FieldExpr at a name) found = in_expr c scope a found
  in_expr c scope (ListExpr at items) found = in_exprs c scope items found
  in_expr c scope (RepeatExpr at a b) found = in_expr c scope b (in_expr c scope a found)
  in_expr c scope (RecordExpr at fs) found = in_fields c scope [] fs found
  in_expr c scope (QuantExpr at all rs body) found = in_expr (contract c) (with_ranges scope rs) body (in_ranges (contract c) scope at rs found)

  pub in_exprs : Context → Scope → Exprs → Found → Found
  in_exprs c scope NoExprs found = found
  in_exprs c scope (MoreExprs e rest) found = in_exprs c scope rest (in_expr c scope e found)

  -- those of the fields, behind other fields of the record
  pub in_fields : Context → Scope → Scope → Fields → Found → Found
  in_fields c scope seen NoFields found = found
  in_fields c scope seen (MoreFields name e rest) found =
      in_fields c scope (with_name seen name just_a_name) rest (noted_where (has seen name) (in_expr c scope e found) (place_of_expr e) cause.Twice)

  -- those of the ranges of a quantifier: a range's variable is in scope behind it
  pub in_ranges : Context → Scope → ℕ → Ranges → Found → Found
  in_ranges c scope at NoRanges found = found
  in_ranges c scope at (MoreRanges name from to rest) found =
      in_ranges c (with_name scope name just_a_name) at rest (noted_where (has scope name) (in_expr c scope to (in_expr c scope from found)) at cause.Twice)
