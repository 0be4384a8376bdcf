-- Data of a type are of the kinds that operators ask for.
use Rattle.std.proofs.Common.{◌≡◌, ◌⊎◌, inl, inr, ℕ, List, Bool, true, false, ◌&&◌, ◌||◌, Option, Some, None, refl, sym, ap, ◌∙◌, subst}
use Rattle.std.specs.Prelude.{is_some}
use Rattle.std.proofs.lemmas.Bool.{or_cases}
use Rattle.wy_lemmas.proofs.Choices.{both_parts as both}
use Rattle.wy_value.specs.Datum.{Datum, Null, Truth, Whole, Array, Record, Fields}
use Rattle.wy_core.specs.Types.{Ty, NullTy, BoolTy, IntTy, AnyTy, VoidTy, RecordTy, ArrayTy, UnionTy, InterTy, NotTy, NamedTy, NormalTy, Conjuncts, NoConjuncts, MoreConjuncts, NullAtom, BoolAtom, IntAtom, ArrayAtom, RecordAtom, AnyRecordAtom}
use Rattle.wy_types.specs.Shape.{Shape, is_int}
use Rattle.wy_types.specs.Names.{Declared, Up, shape_of, is_in_normal, is_in_atom, is_in_none}
use Rattle.wy_flow_spec.specs.wy_subtype_parts.Fields.{value_at, AllHave}
use Rattle.wy_sound_walks.specs.wy_sem.Operations.{find}
use Rattle.wy_sound_walks.specs.wy_vc_spec.Named.{all_numbers, is_number_type}
use Rattle.wy_sound_walks.specs.wy_sound_terms.operations.Kinds.{IsWhole, IsTruth, IsArray, HasField}
use Rattle.wy_sound_kinds.proofs.DatumLemmas.{found_at}

pub whole_in : (names : List Declared) (d : Datum) → Up names d IntTy ≡ true → IsWhole d
whole_in names (Whole z) e = tt
whole_in names Null e = absurd cc
whole_in names (Truth b) e = absurd cc
whole_in names (Array ds) e = absurd cc
whole_in names (Record fs) e = absurd cc

pub truth_in : (names : List Declared) (d : Datum) → Up names d BoolTy ≡ true → IsTruth d
truth_in names (Truth b) e = tt
truth_in names Null e = absurd cc
truth_in names (Whole z) e = absurd cc
truth_in names (Array ds) e = absurd cc
truth_in names (Record fs) e = absurd cc

pub array_in : (names : List Declared) (d : Datum) → Up names d (ArrayTy AnyTy) ≡ true → IsArray d
array_in names (Array ds) e = tt
array_in names Null e = absurd cc
array_in names (Truth b) e = absurd cc
array_in names (Whole z) e = absurd cc
array_in names (Record fs) e = absurd cc

int_shape : (names : List Declared) (d : Datum) → is_int (shape_of names d) ≡ true → IsWhole d
int_shape names (Whole z) e = tt
int_shape names Null e = absurd cc
int_shape names (Truth b) e = absurd cc
int_shape names (Array ds) e = absurd cc
int_shape names (Record fs) e = absurd cc

numbers_in : (names : List Declared) (d : Datum) (cs : Conjuncts) → all_numbers cs ≡ true → is_in_normal (shape_of names d) cs ≡ true → IsWhole d
numbers_in names d NoConjuncts h e = absurd cc
numbers_in names d (MoreConjuncts IntAtom negatives rest) h e =
    by (or_cases (is_int (shape_of names d) && is_in_none (shape_of names d) negatives) (is_in_normal (shape_of names d) rest) e) (λ g. numbers_in names d rest h g)
  where
    by : ((is_int (shape_of names d) && is_in_none (shape_of names d) negatives) ≡ true) ⊎ (is_in_normal (shape_of names d) rest ≡ true) → (is_in_normal (shape_of names d) rest ≡ true → IsWhole d) → IsWhole d
    by (inl g) next = int_shape names d (both (is_int (shape_of names d)) (is_in_none (shape_of names d) negatives) g).0
    by (inr g) next = next g
numbers_in names d (MoreConjuncts NullAtom negatives rest) h e = absurd cc
numbers_in names d (MoreConjuncts BoolAtom negatives rest) h e = absurd cc
numbers_in names d (MoreConjuncts (ArrayAtom p) negatives rest) h e = absurd cc
numbers_in names d (MoreConjuncts (RecordAtom fs) negatives rest) h e = absurd cc
numbers_in names d (MoreConjuncts AnyRecordAtom negatives rest) h e = absurd cc

-- a type of numbers alone
pub number_type_in : (names : List Declared) (d : Datum) (t : Ty) → is_number_type t ≡ true → Up names d t ≡ true → IsWhole d
number_type_in names d (NormalTy cs) h e = numbers_in names d cs h e
number_type_in names d NullTy h e = absurd cc
number_type_in names d BoolTy h e = absurd cc
number_type_in names d IntTy h e = absurd cc
number_type_in names d AnyTy h e = absurd cc
number_type_in names d VoidTy h e = absurd cc
number_type_in names d (RecordTy fs) h e = absurd cc
number_type_in names d (ArrayTy t) h e = absurd cc
number_type_in names d (UnionTy s t) h e = absurd cc
number_type_in names d (InterTy s t) h e = absurd cc
number_type_in names d (NotTy t) h e = absurd cc
number_type_in names d (NamedTy n) h e = absurd cc

some_of : (o : Option Datum) → is_some o ≡ true → (x : Datum) × (o ≡ Some x)
some_of (Some x) e = (x, refl)
some_of None e = absurd cc

pub field_of_all : (names : List Declared) (f : List ℕ) (t : Ty) (d : Datum) → AllHave names f t → Up names d t ≡ true → HasField f d
field_of_all names f t (Record fs) h e = let x = some_of (value_at f fs) (h (Record fs) e) in (x.0, sym (found_at fs f) ∙ x.1)
field_of_all names f t Null h e = let g = h Null e in absurd cc
field_of_all names f t (Truth b) h e = let g = h (Truth b) e in absurd cc
field_of_all names f t (Whole z) h e = let g = h (Whole z) e in absurd cc
field_of_all names f t (Array ds) h e = let g = h (Array ds) e in absurd cc
