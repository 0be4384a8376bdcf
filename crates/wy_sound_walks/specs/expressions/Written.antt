-- Types as a source may write them: no record has a field twice.
use Rattle.std.specs.Prelude.{◌≡◌, ℕ, List, [], ◌∷◌, false, bytes_eq}
use Rattle.wy_core.specs.Types.{Ty, NullTy, BoolTy, IntTy, AnyTy, VoidTy, RecordTy, ArrayTy, UnionTy, InterTy, NotTy, NamedTy, NormalTy, FieldTys, NoFieldTys, MoreFieldTys}
use Rattle.wy_sound_terms.specs.wy_vc_spec.Values.{names_of}

-- the name is none of these
abbrev pub IsNone : List ℕ → List (List ℕ) → Type 0
IsNone name [] = Unit {0}
IsNone name (n ∷ ns) = (bytes_eq name n ≡ false) × IsNone name ns

-- no name stands twice
abbrev pub AreApart : List (List ℕ) → Type 0
AreApart [] = Unit {0}
AreApart (n ∷ ns) = IsNone n ns × AreApart ns

abbrev mutual
  pub IsWritten : Ty → Type 0
  IsWritten NullTy = Unit {0}
  IsWritten BoolTy = Unit {0}
  IsWritten IntTy = Unit {0}
  IsWritten AnyTy = Unit {0}
  IsWritten VoidTy = Unit {0}
  IsWritten (RecordTy fields) = AreApart (names_of fields) × AreWritten fields
  IsWritten (ArrayTy t) = IsWritten t
  IsWritten (UnionTy s t) = IsWritten s × IsWritten t
  IsWritten (InterTy s t) = IsWritten s × IsWritten t
  IsWritten (NotTy t) = IsWritten t
  IsWritten (NamedTy n) = Unit {0}
  IsWritten (NormalTy union) = ⊥

  pub AreWritten : FieldTys → Type 0
  AreWritten NoFieldTys = Unit {0}
  AreWritten (MoreFieldTys name t fields) = IsWritten t × AreWritten fields
