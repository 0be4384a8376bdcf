-- The faults of names in types.
use Rattle.std.specs.Prelude.{not, []}
use Rattle.wy_ast.specs.SurfaceTree.{Ty, FieldTys, NullTy, BoolTy, IntTy, AnyTy, VoidTy, RecordTy, ArrayTy, UnionTy, InterTy, NotTy, NamedTy, NoFieldTys, MoreFieldTys}
pub use Rattle.wy_names_recursion.specs.TypeUses.{seen_fields}
use Rattle.wy_names_scope.specs.declared.table.Entry.{Entry}
use Rattle.wy_names_scope.specs.declared.table.Entry.TheVariants as entry
use Rattle.wy_names_scope.specs.declared.fault.Cause.TheVariants as cause
use Rattle.wy_names_scope.specs.Faults.{Found, noted_where}
use Rattle.wy_names_scope.specs.Scope.{Scope, entry_of, has, with_name}
use Rattle.wy_names_scope.specs.Places.{place_of_ty}
use Rattle.wy_names_recursion.specs.Calls.{is_type}

-- a name beside others of which only the names count
abbrev pub just_a_name : Entry
just_a_name = entry.Variable 0

abbrev mutual
  -- the faults of the type, with those found before
  pub in_ty : Scope → Ty → Found → Found
  in_ty scope (NullTy at) found = found
  in_ty scope (BoolTy at) found = found
  in_ty scope (IntTy at) found = found
  in_ty scope (AnyTy at) found = found
  in_ty scope (VoidTy at) found = found
  in_ty scope (RecordTy at fs) found = in_fields scope [] fs found
  in_ty scope (ArrayTy at item) found = in_ty scope item found
  in_ty scope (UnionTy at a b) found = in_ty scope b (in_ty scope a found)
  in_ty scope (InterTy at a b) found = in_ty scope b (in_ty scope a found)
  in_ty scope (NotTy at t) found = in_ty scope t found
  in_ty scope (NamedTy at name) found = noted_where (not (is_type (entry_of scope name))) found at cause.Unknown

  -- those of the fields, behind other fields of the record
  pub in_fields : Scope → Scope → FieldTys → Found → Found
  in_fields scope seen NoFieldTys found = found
  in_fields scope seen (MoreFieldTys name t rest) found =
      in_fields scope (with_name seen name just_a_name) rest (noted_where (has seen name) (in_ty scope t found) (place_of_ty t) cause.Twice)
