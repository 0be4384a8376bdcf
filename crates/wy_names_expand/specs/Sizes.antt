-- The nodes of an expression in the core, its properties expanded. They are counted in the source: inside an argument of a property, as often and as deep as the property's clauses put it.
use Rattle.std.specs.Prelude.{ℕ, ◌+◌, min, List, length, map, Option, Some, None, slice_get}
use Rattle.wy_ast.specs.SurfaceTree.{Ty, FieldTys, NullTy, BoolTy, IntTy, AnyTy, VoidTy, RecordTy, ArrayTy, UnionTy, InterTy, NotTy, NamedTy, NoFieldTys, MoreFieldTys, field_tys_of}
use Rattle.wy_ast.specs.SurfaceTree.{Expr, Exprs, Fields, Ranges, NullExpr, BoolExpr, IntExpr, TextExpr, VarExpr, CallExpr, NegExpr, NotExpr, LenExpr, BinaryExpr, IsExpr, IndexExpr, FieldExpr, ListExpr, RepeatExpr, RecordExpr, QuantExpr, NoExprs, MoreExprs, NoFields, MoreFields, NoRanges, MoreRanges}
use Rattle.wy_ast.specs.SurfaceSeen.{seen_ty}
use Rattle.wy_ast.specs.declared.types.Ty as rust
use Rattle.wy_ast.specs.declared.expressions.Op.{Op}
use Rattle.wy_ast.specs.declared.expressions.Op.TheVariants as op
use Rattle.wy_names_scope.specs.declared.table.Entry.{Entry}
use Rattle.wy_names_scope.specs.declared.table.Entry.TheVariants as entry
use Rattle.wy_names_scope.specs.Scope.{Scope, entry_of}
use Rattle.wy_names_expand.specs.declared.measure.Measure.{Measure}
use Rattle.wy_names_expand.specs.declared.measure.Spot.{Spot}
use Rattle.wy_names_expand.specs.declared.measure.Use.{Use}
use Rattle.wy_names_expand.specs.declared.measure.Expansion.{Expansion}
use Rattle.wy_names_expand.specs.declared.measure.Expansion.TheVariants as expansion
pub use Rattle.wy_names_expand.specs.Measures.{inside, counted}
use Rattle.wy_names_expand.specs.Measures.{quantified, dropped, argument, counted_many, called, expanded, endless, used}

-- what the walk looks up: the names of declarations, the parameters of the property whose clause it is, and what each declaration expands to
pub record Known : Type 0 where
  pub scope : Scope
  pub params : Scope
  pub expansions : List Expansion

abbrev pub known : Scope → Scope → List Expansion → Known
known scope params expansions = record { scope = scope; params = params; expansions = expansions }

abbrev pub variable_entry : Entry → Spot → Measure → Measure
variable_entry (entry.Type n decl) s m = counted m s
variable_entry (entry.Routine r) s m = counted m s
variable_entry (entry.Property decl arity) s m = counted m s
variable_entry (entry.Variable i) s m = used m s i

-- a variable, or a parameter
abbrev pub variable : Option Entry → Spot → Measure → Measure
variable None s m = counted m s
variable (Some e) s m = variable_entry e s m

-- the clauses of a property that is used at the place
abbrev pub property : Option Expansion → Spot → ℕ → Measure → Measure
property None s at m = endless m at
property (Some expansion.Endless) s at m = endless m at
property (Some (expansion.Finite summary)) s at m = expanded m s summary

abbrev pub call_entry : List Expansion → Entry → Spot → ℕ → Measure → Measure
call_entry x (entry.Type n decl) s at m = called m s
call_entry x (entry.Routine r) s at m = called m s
call_entry x (entry.Property decl arity) s at m = property (slice_get x decl) s at m
call_entry x (entry.Variable n) s at m = called m s

-- a call, its arguments aside
abbrev pub call : List Expansion → Option Entry → Spot → ℕ → Measure → Measure
call x None s at m = called m s
call x (Some e) s at m = call_entry x e s at m

-- an argument whose parameter is used so, where it is used
abbrev pub use_spot : Spot → ℕ → Option Use → Spot
use_spot s at None = dropped s
use_spot s at (Some u) = argument s at u

abbrev pub property_spot : Option Expansion → Spot → ℕ → ℕ → Spot
property_spot None s at i = dropped s
property_spot (Some expansion.Endless) s at i = dropped s
property_spot (Some (expansion.Finite summary)) s at i = use_spot s at (slice_get summary.uses i)

abbrev pub entry_spot : List Expansion → Entry → Spot → ℕ → ℕ → Spot
entry_spot x (entry.Type n decl) s at i = inside s
entry_spot x (entry.Routine r) s at i = inside s
entry_spot x (entry.Property decl arity) s at i = property_spot (slice_get x decl) s at i
entry_spot x (entry.Variable n) s at i = inside s

-- where the argument with this number stands
abbrev pub arg_spot : List Expansion → Option Entry → Spot → ℕ → ℕ → Spot
arg_spot x None s at i = inside s
arg_spot x (Some e) s at i = entry_spot x e s at i

-- the nodes of an operator: `!=` is a denied `==`, and `a ==> b` is `!a || b`
abbrev pub operator : Op → Spot → Measure → Measure
operator op.NotEqual s m = counted (counted m s) (inside s)
operator op.Implies s m = counted (counted m s) (inside s)
operator _ s m = counted m s

abbrev pub left_of : Op → Spot → Spot
left_of op.NotEqual s = inside (inside s)
left_of op.Implies s = inside (inside s)
left_of _ s = inside s

abbrev pub right_of : Op → Spot → Spot
right_of op.NotEqual s = inside (inside s)
right_of _ s = inside s

abbrev mutual
  pub in_ty : Spot → Ty → Measure → Measure
  in_ty s (NullTy at) m = counted m s
  in_ty s (BoolTy at) m = counted m s
  in_ty s (IntTy at) m = counted m s
  in_ty s (AnyTy at) m = counted m s
  in_ty s (VoidTy at) m = counted m s
  in_ty s (RecordTy at fs) m = in_field_tys (inside s) fs (counted m s)
  in_ty s (ArrayTy at item) m = in_ty (inside s) item (counted m s)
  in_ty s (UnionTy at a b) m = in_ty (inside s) b (in_ty (inside s) a (counted m s))
  in_ty s (InterTy at a b) m = in_ty (inside s) b (in_ty (inside s) a (counted m s))
  in_ty s (NotTy at t) m = in_ty (inside s) t (counted m s)
  in_ty s (NamedTy at name) m = counted m s

  pub in_field_tys : Spot → FieldTys → Measure → Measure
  in_field_tys s NoFieldTys m = m
  in_field_tys s (MoreFieldTys name t rest) m = in_field_tys s rest (in_ty s t m)

-- these fields
abbrev pub seen_field_tys : List (List ℕ × rust.Ty) → FieldTys
seen_field_tys fs = field_tys_of (map (λ f. (f.0, seen_ty f.1)) fs)

-- the spot within ranges, each of which is a quantifier of its own
abbrev pub behind_ranges : Spot → Ranges → Spot
behind_ranges s NoRanges = s
behind_ranges s (MoreRanges name from to rest) = behind_ranges (inside s) rest

abbrev mutual
  -- the measure with the nodes of an expression that stands there
  pub in_expr : Known → Spot → Expr → Measure → Measure
  in_expr k s (NullExpr at) m = counted m s
  in_expr k s (BoolExpr at b) m = counted m s
  in_expr k s (IntExpr at z) m = counted m s
  in_expr k s (TextExpr at bytes) m = counted_many (counted m s) (inside s) (min 4097 (length bytes))
  in_expr k s (VarExpr at name) m = variable (entry_of k.params name) s m
  in_expr k s (CallExpr at name args) m =
      in_args k s at (entry_of k.scope name) 0 args (call k.expansions (entry_of k.scope name) s at m)
  in_expr k s (NegExpr at a) m = in_expr k (inside s) a (counted m s)
  in_expr k s (NotExpr at a) m = in_expr k (inside s) a (counted m s)
  in_expr k s (LenExpr at a) m = in_expr k (inside s) a (counted m s)
  in_expr k s (BinaryExpr at o a b) m = in_expr k (right_of o s) b (in_expr k (left_of o s) a (operator o s m))
  in_expr k s (IsExpr at a t) m = in_ty (inside s) t (in_expr k (inside s) a (counted m s))
  in_expr k s (IndexExpr at a b) m = in_expr k (inside s) b (in_expr k (inside s) a (counted m s))
  in_expr k s (FieldExpr at a name) m = in_expr k (inside s) a (counted m s)
  in_expr k s (ListExpr at items) m = in_exprs k (inside s) items (counted m s)
  in_expr k s (RepeatExpr at a b) m = in_expr k (inside s) b (in_expr k (inside s) a (counted m s))
  in_expr k s (RecordExpr at fs) m = in_fields k (inside s) fs (counted m s)
  in_expr k s (QuantExpr at all rs body) m = in_expr k (behind_ranges (quantified s) rs) body (in_ranges k (quantified s) rs m)

  pub in_exprs : Known → Spot → Exprs → Measure → Measure
  in_exprs k s NoExprs m = m
  in_exprs k s (MoreExprs e rest) m = in_exprs k s rest (in_expr k s e m)

  -- the arguments of a call at the place, from the one with this number on
  pub in_args : Known → Spot → ℕ → Option Entry → ℕ → Exprs → Measure → Measure
  in_args k s at callee i NoExprs m = m
  in_args k s at callee i (MoreExprs e rest) m = in_args k s at callee (i + 1) rest (in_expr k (arg_spot k.expansions callee s at i) e m)

  pub in_fields : Known → Spot → Fields → Measure → Measure
  in_fields k s NoFields m = m
  in_fields k s (MoreFields name e rest) m = in_fields k s rest (in_expr k s e m)

  pub in_ranges : Known → Spot → Ranges → Measure → Measure
  in_ranges k s NoRanges m = m
  in_ranges k s (MoreRanges name from to rest) m =
      in_ranges k (inside s) rest (in_expr k (inside s) to (in_expr k (inside s) from (counted m s)))

-- the test `t == label`
abbrev pub in_label : Known → Spot → Expr → Measure → Measure
in_label k s label m = in_expr k (inside s) label (counted (counted m s) (inside s))
