-- Which uses of types and properties the types and properties of a program have: at which name, and in which way.
use Rattle.std.specs.Prelude.{◌≡◌, ◌⊎◌, ℕ, ◌+◌, List, [], ◌∷◌, Option, Some, None, slice_get}
use Rattle.wy_ast.specs.SurfaceTree.{Ty, FieldTys, NullTy, BoolTy, IntTy, AnyTy, VoidTy, RecordTy, ArrayTy, UnionTy, InterTy, NotTy, NamedTy, NoFieldTys, MoreFieldTys}
use Rattle.wy_ast.specs.SurfaceTree.{Expr, Exprs, Fields, Ranges, NullExpr, BoolExpr, IntExpr, TextExpr, VarExpr, CallExpr, NegExpr, NotExpr, LenExpr, BinaryExpr, IsExpr, IndexExpr, FieldExpr, ListExpr, RepeatExpr, RecordExpr, QuantExpr, NoExprs, MoreExprs, NoFields, MoreFields, NoRanges, MoreRanges}
use Rattle.wy_ast.specs.SurfaceTree.{Decl, AliasDecl, FunctionDecl, MethodDecl, PropertyDecl, exprs_of}
use Rattle.wy_names_scope.specs.declared.table.Entry.{Entry}
use Rattle.wy_names_scope.specs.declared.table.Entry.TheVariants as entry
use Rattle.wy_names_scope.specs.Scope.{Scope, entry_of}
use Rattle.wy_names_recursion.specs.declared.edges.Edge.{Edge}
use Rattle.wy_names_recursion.specs.declared.edges.Way.{Way}
use Rattle.wy_names_recursion.specs.declared.edges.Way.TheVariants as way
use Rattle.wy_names_recursion.specs.Uses.{Edges, guarded}

abbrev pub NoUse : Edge → Type 0
NoUse e = ⊥

abbrev pub EitherUse : (Edge → Type 0) → (Edge → Type 0) → Edge → Type 0
EitherUse P Q e = P e ⊎ Q e

-- the declaration uses another one at the place, in this way
abbrev pub IsUse : ℕ → ℕ → ℕ → Way → Edge → Type 0
IsUse from to at w e = e ≡ record { from = from; to = to; at = at; way = w }

-- ---- types

abbrev pub OfType : ℕ → Way → ℕ → Entry → Edge → Type 0
OfType from w at (entry.Type n decl) = IsUse from decl at w
OfType from w at (entry.Routine s) = NoUse
OfType from w at (entry.Property decl arity) = NoUse
OfType from w at (entry.Variable n) = NoUse

abbrev pub OfTypeName : ℕ → Way → ℕ → Option Entry → Edge → Type 0
OfTypeName from w at None = NoUse
OfTypeName from w at (Some e) = OfType from w at e

abbrev mutual
  -- at each name of a type. Within a record or an array a bare use is guarded
  pub InTy : Scope → ℕ → Way → Ty → Edge → Type 0
  InTy s from w (NullTy at) = NoUse
  InTy s from w (BoolTy at) = NoUse
  InTy s from w (IntTy at) = NoUse
  InTy s from w (AnyTy at) = NoUse
  InTy s from w (VoidTy at) = NoUse
  InTy s from w (RecordTy at fs) = InFieldTys s from (guarded w) fs
  InTy s from w (ArrayTy at item) = InTy s from (guarded w) item
  InTy s from w (UnionTy at a b) = EitherUse (InTy s from w a) (InTy s from w b)
  InTy s from w (InterTy at a b) = EitherUse (InTy s from w a) (InTy s from w b)
  InTy s from w (NotTy at t) = InTy s from w t
  InTy s from w (NamedTy at name) = OfTypeName from w at (entry_of s name)

  pub InFieldTys : Scope → ℕ → Way → FieldTys → Edge → Type 0
  InFieldTys s from w NoFieldTys = NoUse
  InFieldTys s from w (MoreFieldTys name t rest) = EitherUse (InTy s from w t) (InFieldTys s from w rest)

-- ---- clauses

abbrev pub OfProperty : ℕ → ℕ → Entry → Edge → Type 0
OfProperty from at (entry.Type n decl) = NoUse
OfProperty from at (entry.Routine s) = NoUse
OfProperty from at (entry.Property decl arity) = IsUse from decl at way.Use
OfProperty from at (entry.Variable n) = NoUse

abbrev pub OfPropertyName : ℕ → ℕ → Option Entry → Edge → Type 0
OfPropertyName from at None = NoUse
OfPropertyName from at (Some e) = OfProperty from at e

abbrev mutual
  -- at each use of a property, and at each name of a type that is tested
  pub InExpr : Scope → ℕ → Expr → Edge → Type 0
  InExpr s from (NullExpr at) = NoUse
  InExpr s from (BoolExpr at b) = NoUse
  InExpr s from (IntExpr at z) = NoUse
  InExpr s from (TextExpr at bytes) = NoUse
  InExpr s from (VarExpr at name) = NoUse
  InExpr s from (CallExpr at name args) = EitherUse (OfPropertyName from at (entry_of s name)) (InExprs s from args)
  InExpr s from (NegExpr at a) = InExpr s from a
  InExpr s from (NotExpr at a) = InExpr s from a
  InExpr s from (LenExpr at a) = InExpr s from a
  InExpr s from (BinaryExpr at o a b) = EitherUse (InExpr s from a) (InExpr s from b)
  InExpr s from (IsExpr at a t) = EitherUse (InExpr s from a) (InTy s from way.Mention t)
  InExpr s from (IndexExpr at a b) = EitherUse (InExpr s from a) (InExpr s from b)
  InExpr s from (FieldExpr at a name) = InExpr s from a
  InExpr s from (ListExpr at es) = InExprs s from es
  InExpr s from (RepeatExpr at a b) = EitherUse (InExpr s from a) (InExpr s from b)
  InExpr s from (RecordExpr at fs) = InFields s from fs
  InExpr s from (QuantExpr at all rs body) = EitherUse (InRanges s from rs) (InExpr s from body)

  pub InExprs : Scope → ℕ → Exprs → Edge → Type 0
  InExprs s from NoExprs = NoUse
  InExprs s from (MoreExprs e rest) = EitherUse (InExpr s from e) (InExprs s from rest)

  pub InFields : Scope → ℕ → Fields → Edge → Type 0
  InFields s from NoFields = NoUse
  InFields s from (MoreFields name e rest) = EitherUse (InExpr s from e) (InFields s from rest)

  pub InRanges : Scope → ℕ → Ranges → Edge → Type 0
  InRanges s from NoRanges = NoUse
  InRanges s from (MoreRanges name a b rest) = EitherUse (InExpr s from a) (EitherUse (InExpr s from b) (InRanges s from rest))

-- ---- declarations

abbrev pub InDecl : Scope → ℕ → Decl → Edge → Type 0
InDecl s from (AliasDecl a) = EitherUse (InTy s from way.Bare a.ty) (InExprs s from (exprs_of a.clauses))
InDecl s from (FunctionDecl f) = NoUse
InDecl s from (MethodDecl m) = NoUse
InDecl s from (PropertyDecl p) = InExprs s from (exprs_of p.clauses)

-- a type or a property among these declarations, the first of which has this index, has the use
abbrev pub InDecls : Scope → ℕ → List Decl → Edge → Type 0
InDecls s from [] = NoUse
InDecls s from (d ∷ ds) = EitherUse (InDecl s from d) (InDecls s (from + 1) ds)

-- it is listed
pub record IsListed (es : Edges) (e : Edge) : Type 0 where
  pub place : ℕ
  pub there : slice_get es place ≡ Some e
