-- The types that a type uses, in the order of the source.
use Rattle.std.specs.Prelude.{ℕ, List, map}
use Rattle.wy_ast.specs.SurfaceTree.{Ty, FieldTys, NullTy, BoolTy, IntTy, AnyTy, VoidTy, RecordTy, ArrayTy, UnionTy, InterTy, NotTy, NamedTy, NoFieldTys, MoreFieldTys, field_tys_of}
use Rattle.wy_ast.specs.SurfaceSeen.{seen_ty}
use Rattle.wy_ast.specs.declared.types.Ty as rust
use Rattle.wy_names_scope.specs.Scope.{Scope, entry_of}
use Rattle.wy_names_recursion.specs.declared.edges.Way.{Way}
use Rattle.wy_names_recursion.specs.Uses.{Edges, guarded, type_named}

abbrev mutual
  -- the types that the type uses
  pub in_ty : Scope → ℕ → Way → Ty → Edges → Edges
  in_ty s from w (NullTy at) edges = edges
  in_ty s from w (BoolTy at) edges = edges
  in_ty s from w (IntTy at) edges = edges
  in_ty s from w (AnyTy at) edges = edges
  in_ty s from w (VoidTy at) edges = edges
  in_ty s from w (RecordTy at fs) edges = in_fields s from (guarded w) fs edges
  in_ty s from w (ArrayTy at item) edges = in_ty s from (guarded w) item edges
  in_ty s from w (UnionTy at a b) edges = in_ty s from w b (in_ty s from w a edges)
  in_ty s from w (InterTy at a b) edges = in_ty s from w b (in_ty s from w a edges)
  in_ty s from w (NotTy at t) edges = in_ty s from w t edges
  in_ty s from w (NamedTy at name) edges = type_named from w at (entry_of s name) edges

  pub in_fields : Scope → ℕ → Way → FieldTys → Edges → Edges
  in_fields s from w NoFieldTys edges = edges
  in_fields s from w (MoreFieldTys name t rest) edges = in_fields s from w rest (in_ty s from w t edges)

-- these fields
abbrev pub seen_fields : List (List ℕ × rust.Ty) → FieldTys
seen_fields fs = field_tys_of (map (λ f. (f.0, seen_ty f.1)) fs)
