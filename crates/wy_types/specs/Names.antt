-- The declared types of a program, and what a type says of a datum. A constrained name stands upward for its definition and downward for nothing; under a negation the readings swap.
use Rattle.std.specs.Prelude.{ℕ, zero, suc, length, List, [], ◌∷◌, Bool, true, false, not, ◌&&◌, ◌||◌, Option, Some, None, slice_get, is_some, map}
use Rattle.std.specs.Str.{bytes_eq}
use Rattle.wy_core.specs.wy_value.Datum.{Datum, Data, Fields, no_items, item, no_fields, field}
use Rattle.wy_core.specs.wy_value.Datum as datum
use Rattle.wy_core.specs.wy_value.Values.{names_of}
use Rattle.wy_core.specs.Types.{Ty, FieldTys, Conjuncts, Atoms, Atom, FieldParts, Part, NullTy, BoolTy, IntTy, AnyTy, VoidTy, RecordTy, ArrayTy, UnionTy, InterTy, NotTy, NamedTy, NormalTy, NoFieldTys, MoreFieldTys, NoConjuncts, MoreConjuncts, NoAtoms, MoreAtoms, NullAtom, BoolAtom, IntAtom, ArrayAtom, RecordAtom, AnyRecordAtom, NoFieldParts, MoreFieldParts, NoTerms, MoreTerms}
use Rattle.wy_core.specs.CoreTree.{Decl, AliasDecl, RoutineDecl}
use Rattle.wy_core.specs.CoreSeen.{seen_ty}
use Rattle.wy_types.specs.Shape.{Shape, NullShape, BoolShape, IntShape, ArrayShape, RecordShape, is_null, is_bool, is_int, is_record, signed_as}
use Rattle.wy_types.specs.declared.names.Declared as rust
use Rattle.wy_types.specs.declared.names.Names as rust_names

-- what a declared type stands for, and whether it has a clause
pub record Declared : Type 0 where
  pub ty : Ty
  pub constrained : Bool

-- what the node stands for
abbrev pub seen_declared : rust.Declared → Declared
seen_declared d = record { ty = seen_ty d.ty; constrained = d.constrained }

-- what the names stand for, by their numbers
abbrev pub types_of : rust_names.Names → List Declared
types_of names = map seen_declared names.declared

-- the declared types of a program, by their numbers
abbrev pub names_in : {N : Type 0} → List (Decl N) → List Declared
names_in [] = []
names_in (AliasDecl a ∷ ds) = record { ty = a.ty; constrained = is_some a.variable } ∷ names_in ds
names_in (RoutineDecl r ∷ ds) = names_in ds

-- ---- what the parts of a value must be

-- is in all of the terms
abbrev pub terms_in : (Bool → Ty → Bool) → Part → Bool
terms_in r NoTerms = true
terms_in r (MoreTerms term up inside rest) = signed_as (r up term) inside && terms_in r rest

-- each is in all of the terms
abbrev pub each_terms_in : List (Bool → Ty → Bool) → Part → Bool
each_terms_in [] p = true
each_terms_in (r ∷ rs) p = terms_in r p && each_terms_in rs p

-- the fields have these names, and each value is in its part
abbrev pub parts_in : List (List ℕ) → List (Bool → Ty → Bool) → FieldParts → Bool
parts_in [] [] NoFieldParts = true
parts_in (n ∷ ns) (r ∷ rs) (MoreFieldParts name p rest) = bytes_eq n name && (terms_in r p && parts_in ns rs rest)
parts_in _ _ _ = false

-- is an array of such items
abbrev pub is_array_of : Shape Ty → Part → Bool
is_array_of (ArrayShape items) p = each_terms_in items p
is_array_of _ p = false

-- is a record of such fields
abbrev pub is_record_of : Shape Ty → FieldParts → Bool
is_record_of (RecordShape names values) fs = parts_in names values fs
is_record_of _ fs = false

-- is in the atom
abbrev pub is_in_atom : Shape Ty → Atom → Bool
is_in_atom shape NullAtom = is_null shape
is_in_atom shape BoolAtom = is_bool shape
is_in_atom shape IntAtom = is_int shape
is_in_atom shape (ArrayAtom p) = is_array_of shape p
is_in_atom shape (RecordAtom fs) = is_record_of shape fs
is_in_atom shape AnyRecordAtom = is_record shape

-- is in none of the atoms
abbrev pub is_in_none : Shape Ty → Atoms → Bool
is_in_none shape NoAtoms = true
is_in_none shape (MoreAtoms a rest) = not (is_in_atom shape a) && is_in_none shape rest

-- is in one of the conjuncts
abbrev pub is_in_normal : Shape Ty → Conjuncts → Bool
is_in_normal shape NoConjuncts = false
is_in_normal shape (MoreConjuncts positive negatives rest) = (is_in_atom shape positive && is_in_none shape negatives) || is_in_normal shape rest

-- each item is in the type
abbrev pub each_in_ty : List (Bool → Ty → Bool) → Bool → Ty → Bool
each_in_ty [] up t = true
each_in_ty (r ∷ rs) up t = r up t && each_in_ty rs up t

-- is an array of such items
abbrev pub is_array : Shape Ty → Bool → Ty → Bool
is_array (ArrayShape items) up t = each_in_ty items up t
is_array _ up t = false

-- the fields have these names, and each value is in its type
abbrev pub fields_in_tys : List (List ℕ) → List (Bool → Ty → Bool) → Bool → FieldTys → Bool
fields_in_tys [] [] up NoFieldTys = true
fields_in_tys (n ∷ ns) (r ∷ rs) up (MoreFieldTys name t rest) = bytes_eq n name && (r up t && fields_in_tys ns rs up rest)
fields_in_tys _ _ up _ = false

-- is a record of such fields
abbrev pub is_record_with : Shape Ty → Bool → FieldTys → Bool
is_record_with (RecordShape names values) up fs = fields_in_tys names values up fs
is_record_with _ up fs = false

-- ---- what a type says

-- is in the type, by what is told of names
abbrev pub ty_in : (Bool → ℕ → Bool) → Shape Ty → Bool → Ty → Bool
ty_in named shape up NullTy = is_null shape
ty_in named shape up BoolTy = is_bool shape
ty_in named shape up IntTy = is_int shape
ty_in named shape up AnyTy = true
ty_in named shape up VoidTy = false
ty_in named shape up (RecordTy fs) = is_record_with shape up fs
ty_in named shape up (ArrayTy t) = is_array shape up t
ty_in named shape up (UnionTy a b) = ty_in named shape up a || ty_in named shape up b
ty_in named shape up (InterTy a b) = ty_in named shape up a && ty_in named shape up b
ty_in named shape up (NotTy a) = not (ty_in named shape (not up) a)
ty_in named shape up (NamedTy n) = named up n
ty_in named shape up (NormalTy cs) = is_in_normal shape cs

-- is in what a name stands for
abbrev pub declared_in : (Bool → ℕ → Bool) → Shape Ty → Bool → Option Declared → Bool
declared_in named shape up None = false
declared_in named shape up (Some d) = (up || not d.constrained) && ty_in named shape up d.ty

-- is in the name, names in it unfolded no deeper than the number
abbrev pub named_in : List Declared → ℕ → Shape Ty → Bool → ℕ → Bool
named_in names zero shape up n = false
named_in names (suc k) shape up n = declared_in (named_in names k shape) shape up (slice_get names n)

-- is in the type: where no name uses itself bare, each is unfolded at most once on a path
abbrev pub is_in_ty : List Declared → Shape Ty → Bool → Ty → Bool
is_in_ty names shape up t = ty_in (named_in names (length names) shape) shape up t

abbrev mutual
  -- the datum, with what its parts tell
  pub shape_of : List Declared → Datum → Shape Ty
  shape_of names datum.Null = NullShape
  shape_of names (datum.Truth b) = BoolShape
  shape_of names (datum.Whole z) = IntShape
  shape_of names (datum.Array items) = ArrayShape (item_readers names items)
  shape_of names (datum.Record fields) = RecordShape (names_of fields) (field_readers names fields)

  -- what each item tells
  pub item_readers : List Declared → Data → List (Bool → Ty → Bool)
  item_readers names no_items = []
  item_readers names (item d rest) = is_in_ty names (shape_of names d) ∷ item_readers names rest

  -- what each field tells
  pub field_readers : List Declared → Fields → List (Bool → Ty → Bool)
  field_readers names no_fields = []
  field_readers names (field name d rest) = is_in_ty names (shape_of names d) ∷ field_readers names rest

-- the datum is in the type, read upward
abbrev pub Up : List Declared → Datum → Ty → Bool
Up names d t = is_in_ty names (shape_of names d) true t

-- the datum is in the type, read downward
abbrev pub Down : List Declared → Datum → Ty → Bool
Down names d t = is_in_ty names (shape_of names d) false t
