-- Types of the core: numbers for names, fields rising.
use Rattle.std.specs.Prelude.{ℕ, List, []}
use Rattle.std.specs.BTreeMap.{insert_entry}
use Rattle.std.specs.Cmp.Lexicographic.{slice_cmp}
use Rattle.std.specs.Ordering.{nat_cmp}
use Rattle.wy_ast.specs.SurfaceTree as surface
use Rattle.wy_core.specs.Types.{Ty, NullTy, BoolTy, IntTy, AnyTy, VoidTy, RecordTy, ArrayTy, UnionTy, InterTy, NotTy, NamedTy}
use Rattle.wy_core.specs.CoreSeen.{field_tys_of}
use Rattle.wy_names_scope.specs.Scope.{Scope, entry_of}
use Rattle.wy_names_lower.specs.Variables.{type_of}

-- the fields with one more, at its place in the order of names
abbrev pub placed : {X : Type 0} → List (List ℕ × X) → List ℕ → X → List (List ℕ × X)
placed fs name x = insert_entry (slice_cmp nat_cmp) fs name x

abbrev mutual
  pub in_ty : Scope → surface.Ty → Ty
  in_ty s (surface.NullTy at) = NullTy
  in_ty s (surface.BoolTy at) = BoolTy
  in_ty s (surface.IntTy at) = IntTy
  in_ty s (surface.AnyTy at) = AnyTy
  in_ty s (surface.VoidTy at) = VoidTy
  in_ty s (surface.RecordTy at fs) = RecordTy (field_tys_of (in_fields s [] fs))
  in_ty s (surface.ArrayTy at item) = ArrayTy (in_ty s item)
  in_ty s (surface.UnionTy at a b) = UnionTy (in_ty s a) (in_ty s b)
  in_ty s (surface.InterTy at a b) = InterTy (in_ty s a) (in_ty s b)
  in_ty s (surface.NotTy at t) = NotTy (in_ty s t)
  in_ty s (surface.NamedTy at name) = NamedTy (type_of (entry_of s name))

  -- further fields put among others
  pub in_fields : Scope → List (List ℕ × Ty) → surface.FieldTys → List (List ℕ × Ty)
  in_fields s made surface.NoFieldTys = made
  in_fields s made (surface.MoreFieldTys name t rest) = in_fields s (placed made name (in_ty s t)) rest
