-- A test of which types a source may write.
use Rattle.std.proofs.Common.{◌≡◌, ℕ, List, [], ◌∷◌, Bool, true, false, not, ◌&&◌, refl}
use Rattle.std.specs.Prelude.{bytes_eq}
use Rattle.std.proofs.lemmas.Bool.{and_parts, not-true}
use Rattle.wy_core.specs.Types.{Ty, NullTy, BoolTy, IntTy, AnyTy, VoidTy, RecordTy, ArrayTy, UnionTy, InterTy, NotTy, NamedTy, NormalTy, FieldTys, NoFieldTys, MoreFieldTys}
use Rattle.wy_sound_programs.specs.wy_vc_spec.Values.{names_of}
use Rattle.wy_lemmas.proofs.Choices.{both_true}
use Rattle.wy_sound_types.specs.wy_sound_walks.expressions.Written.{IsNone, AreApart, IsWritten, AreWritten}

abbrev pub is_none : List ℕ → List (List ℕ) → Bool
is_none name [] = true
is_none name (n ∷ ns) = not (bytes_eq name n) && is_none name ns

abbrev pub are_apart : List (List ℕ) → Bool
are_apart [] = true
are_apart (n ∷ ns) = is_none n ns && are_apart ns

not_false : (b : Bool) → b ≡ false → not b ≡ true
not_false b e = rw e refl

none_is : (name : List ℕ) (ns : List (List ℕ)) → is_none name ns ≡ true → IsNone name ns
none_is name [] e = tt
none_is name (n ∷ ns) e = let two = and_parts (not (bytes_eq name n)) (is_none name ns) e in (not-true (bytes_eq name n) two.0, none_is name ns two.1)

is_no : (name : List ℕ) (ns : List (List ℕ)) → IsNone name ns → is_none name ns ≡ true
is_no name [] h = refl
is_no name (n ∷ ns) h = both_true (not (bytes_eq name n)) (is_none name ns) (not_false (bytes_eq name n) h.0) (is_no name ns h.1)

apart_is : (ns : List (List ℕ)) → are_apart ns ≡ true → AreApart ns
apart_is [] e = tt
apart_is (n ∷ ns) e = let two = and_parts (is_none n ns) (are_apart ns) e in (none_is n ns two.0, apart_is ns two.1)

is_apart : (ns : List (List ℕ)) → AreApart ns → are_apart ns ≡ true
is_apart [] h = refl
is_apart (n ∷ ns) h = both_true (is_none n ns) (are_apart ns) (is_no n ns h.0) (is_apart ns h.1)

abbrev mutual
  pub is_writable : Ty → Bool
  is_writable NullTy = true
  is_writable BoolTy = true
  is_writable IntTy = true
  is_writable AnyTy = true
  is_writable VoidTy = true
  is_writable (RecordTy fields) = are_apart (names_of fields) && are_writable fields
  is_writable (ArrayTy t) = is_writable t
  is_writable (UnionTy s t) = is_writable s && is_writable t
  is_writable (InterTy s t) = is_writable s && is_writable t
  is_writable (NotTy t) = is_writable t
  is_writable (NamedTy n) = true
  is_writable (NormalTy union) = false

  pub are_writable : FieldTys → Bool
  are_writable NoFieldTys = true
  are_writable (MoreFieldTys name t fields) = is_writable t && are_writable fields

mutual
  pub writable_is : (t : Ty) → is_writable t ≡ true → IsWritten t
  writable_is NullTy e = tt
  writable_is BoolTy e = tt
  writable_is IntTy e = tt
  writable_is AnyTy e = tt
  writable_is VoidTy e = tt
  writable_is (RecordTy fields) e = let two = and_parts (are_apart (names_of fields)) (are_writable fields) e in (apart_is (names_of fields) two.0, fields_writable fields two.1)
  writable_is (ArrayTy t) e = writable_is t e
  writable_is (UnionTy s t) e = let two = and_parts (is_writable s) (is_writable t) e in (writable_is s two.0, writable_is t two.1)
  writable_is (InterTy s t) e = let two = and_parts (is_writable s) (is_writable t) e in (writable_is s two.0, writable_is t two.1)
  writable_is (NotTy t) e = writable_is t e
  writable_is (NamedTy n) e = tt
  writable_is (NormalTy union) e = absurd cc

  fields_writable : (fields : FieldTys) → are_writable fields ≡ true → AreWritten fields
  fields_writable NoFieldTys e = tt
  fields_writable (MoreFieldTys name t fields) e = let two = and_parts (is_writable t) (are_writable fields) e in (writable_is t two.0, fields_writable fields two.1)

mutual
  pub is_writing : (t : Ty) → IsWritten t → is_writable t ≡ true
  is_writing NullTy h = refl
  is_writing BoolTy h = refl
  is_writing IntTy h = refl
  is_writing AnyTy h = refl
  is_writing VoidTy h = refl
  is_writing (RecordTy fields) h = both_true (are_apart (names_of fields)) (are_writable fields) (is_apart (names_of fields) h.0) (fields_writing fields h.1)
  is_writing (ArrayTy t) h = is_writing t h
  is_writing (UnionTy s t) h = both_true (is_writable s) (is_writable t) (is_writing s h.0) (is_writing t h.1)
  is_writing (InterTy s t) h = both_true (is_writable s) (is_writable t) (is_writing s h.0) (is_writing t h.1)
  is_writing (NotTy t) h = is_writing t h
  is_writing (NamedTy n) h = refl
  is_writing (NormalTy union) h = absurd h

  fields_writing : (fields : FieldTys) → AreWritten fields → are_writable fields ≡ true
  fields_writing NoFieldTys h = refl
  fields_writing (MoreFieldTys name t fields) h = both_true (is_writable t) (are_writable fields) (is_writing t h.0) (fields_writing fields h.1)
