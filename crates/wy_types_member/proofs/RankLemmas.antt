-- By what the questions of membership fall: by the value, then by the names that may be unfolded, and then by the type.
use Rattle.std.proofs.Common.{◌≡◌, ◌≢◌, ◌<◌, ◌≤◌, ℕ, ◌+◌, ◌-◌, ◌*◌, List, [], ◌∷◌, arith, rules, length, subst}
use Rattle.std.proofs.Math.Nat.{mul-le-mul_right}
use Rattle.wy_value.specs.Datum.{Datum, Data, Fields, no_items, item, no_fields, field}
use Rattle.wy_value.specs.Datum as datum
use Rattle.wy_core.specs.Types.{Ty, FieldTys, Conjuncts, Atoms, Atom, FieldParts, Part, NullTy, BoolTy, IntTy, AnyTy, VoidTy, RecordTy, ArrayTy, UnionTy, InterTy, NotTy, NamedTy, NormalTy, NoFieldTys, MoreFieldTys, NoConjuncts, MoreConjuncts, NoAtoms, MoreAtoms, NullAtom, BoolAtom, IntAtom, ArrayAtom, RecordAtom, AnyRecordAtom, NoFieldParts, MoreFieldParts, NoTerms, MoreTerms}
use Rattle.wy_core.specs.CoreSeen.{SeenConjunct}
use Rattle.wy_types.specs.Names.{Declared}

-- ---- sizes

abbrev mutual
  pub datum_size : Datum → ℕ
  datum_size datum.Null = 1
  datum_size (datum.Truth b) = 1
  datum_size (datum.Whole z) = 1
  datum_size (datum.Array items) = 1 + data_size items
  datum_size (datum.Record fields) = 1 + fields_size fields

  pub data_size : Data → ℕ
  data_size no_items = 0
  data_size (item d rest) = 1 + datum_size d + data_size rest

  pub fields_size : Fields → ℕ
  fields_size no_fields = 0
  fields_size (field name d rest) = 1 + datum_size d + fields_size rest

abbrev mutual
  pub ty_size : Ty → ℕ
  ty_size NullTy = 1
  ty_size BoolTy = 1
  ty_size IntTy = 1
  ty_size AnyTy = 1
  ty_size VoidTy = 1
  ty_size (RecordTy fs) = 1 + tys_size fs
  ty_size (ArrayTy t) = 1 + ty_size t
  ty_size (UnionTy a b) = 1 + ty_size a + ty_size b
  ty_size (InterTy a b) = 1 + ty_size a + ty_size b
  ty_size (NotTy a) = 1 + ty_size a
  ty_size (NamedTy n) = 1
  ty_size (NormalTy cs) = 1 + conjuncts_size cs

  pub tys_size : FieldTys → ℕ
  tys_size NoFieldTys = 0
  tys_size (MoreFieldTys name t rest) = 1 + ty_size t + tys_size rest

  pub conjuncts_size : Conjuncts → ℕ
  conjuncts_size NoConjuncts = 0
  conjuncts_size (MoreConjuncts positive negatives rest) = 2 + atom_size positive + atoms_size negatives + conjuncts_size rest

  pub atoms_size : Atoms → ℕ
  atoms_size NoAtoms = 0
  atoms_size (MoreAtoms a rest) = 1 + atom_size a + atoms_size rest

  pub atom_size : Atom → ℕ
  atom_size NullAtom = 1
  atom_size BoolAtom = 1
  atom_size IntAtom = 1
  atom_size (ArrayAtom p) = 1 + part_size p
  atom_size (RecordAtom ps) = 1 + parts_size ps
  atom_size AnyRecordAtom = 1

  pub parts_size : FieldParts → ℕ
  parts_size NoFieldParts = 0
  parts_size (MoreFieldParts name p rest) = 1 + part_size p + parts_size rest

  pub part_size : Part → ℕ
  part_size NoTerms = 0
  part_size (MoreTerms t up inside rest) = 1 + ty_size t + part_size rest

abbrev pub conjunct_size : SeenConjunct → ℕ
conjunct_size c = 1 + atom_size c.0 + atoms_size c.1

abbrev pub names_size : List Declared → ℕ
names_size [] = 0
names_size (d ∷ ds) = ty_size d.ty + names_size ds

-- ---- the rank of a question

abbrev pub ranked : ℕ → ℕ → ℕ → ℕ → ℕ → ℕ
ranked most width v k t = v * (most * width + width) + (k * width + t)

abbrev pub width_of : List Declared → ℕ
width_of names = 1 + (names_size names + names_size names)

-- the rank of a question about a value of such a size, where names may still be unfolded so deep, and a type whose size is this number's half
abbrev pub rank : List Declared → ℕ → ℕ → ℕ → ℕ
rank names v k t = ranked (length names) (width_of names) v k t

times_more : (a m : ℕ) → (a + 1) * m ≡ a * m + m
times_more a m = first_of (omega arith, search rules)

falls_by_value : (most width v w j k s t : ℕ) → 0 < width → w < v → j ≤ most → s ≤ t → ranked most width w j s < ranked most width v k t
falls_by_value most width v w j k s t wide less within small =
    let size : ℕ = most * width + width in
    let up : (w + 1) * size ≤ v * size = mul-le-mul_right size (omega arith) in
    let more : (w + 1) * size ≡ w * size + size = times_more w size in
    let low : j * width ≤ most * width = mul-le-mul_right width within in
    omega arith

falls_by_type : (most width v j k s t : ℕ) → j ≤ k → s < t → ranked most width v j s < ranked most width v k t
falls_by_type most width v j k s t within less =
    let low : j * width ≤ k * width = mul-le-mul_right width within in
    omega arith

falls_by_name : (most width v k s t : ℕ) → s < width → ranked most width v k s < ranked most width v (k + 1) t
falls_by_name most width v k s t small =
    let more : (k + 1) * width ≡ k * width + width = times_more k width in
    omega arith

-- an item, a field's value and its like: where the value is smaller, and the type no larger
pub by_value : (names : List Declared) (v w k s t : ℕ) → w < v → s ≤ t → rank names w (length names) s < rank names v k t
by_value names v w k s t less small = falls_by_value (length names) (width_of names) v w (length names) k s t (omega arith) less (omega arith) small

-- the same, where no name is unfolded
pub by_parts : (names : List Declared) (v w k s t : ℕ) → w < v → s ≤ t → rank names w 0 s < rank names v k t
by_parts names v w k s t less small = falls_by_value (length names) (width_of names) v w 0 k s t (omega arith) less (omega arith) small

pub by_type : (names : List Declared) (v k s t : ℕ) → s < t → rank names v k s < rank names v k t
by_type names v k s t less = falls_by_type (length names) (width_of names) v k k s t (omega arith) less

pub by_kind : (names : List Declared) (v k s t : ℕ) → s < t → rank names v 0 s < rank names v k t
by_kind names v k s t less = falls_by_type (length names) (width_of names) v 0 k s t (omega arith) less

pub by_name : (names : List Declared) (v bare s t : ℕ) → bare ≢ 0 → s ≤ names_size names + names_size names → rank names v (bare - 1) s < rank names v bare t
by_name names v bare s t some small =
    let back : (bare - 1) + 1 ≡ bare = omega arith in
    subst (λ (k : ℕ). rank names v (bare - 1) s < rank names v k t) back (falls_by_name (length names) (width_of names) v (bare - 1) s t (omega arith))

-- what a question about a list of parts may be asked of
pub by_part : (names : List Declared) (v k part whole : ℕ) → whole ≡ 1 + part → rank names v 0 (1 + (part + part)) < rank names v k (whole + whole)
by_part names v k part whole is = by_kind names v k (1 + (part + part)) (whole + whole) (omega arith)

-- below the rank is below what the rank is
pub fallen : (low whole t : ℕ) → whole ≡ t → low < whole → low < t
fallen low whole t e less = subst (λ (x : ℕ). low < x) e less
