-- A type that is put into a list of nodes has a number that stands for it; what stands for a type goes on to, and alone.
use Rattle.std.proofs.Common.{ℕ, ◌<◌, List, [], ◌∷◌, length, Bool, refl}
use Rattle.std.proofs.lemmas.Option.{slice_get_within}
use Rattle.wy_core.specs.Types.{Ty, FieldTys, Conjuncts, Atoms, Atom, FieldParts, Part, NullTy, BoolTy, IntTy, AnyTy, VoidTy, RecordTy, ArrayTy, UnionTy, InterTy, NotTy, NamedTy, NormalTy, NoFieldTys, MoreFieldTys, NoConjuncts, MoreConjuncts, NoAtoms, MoreAtoms, NullAtom, BoolAtom, IntAtom, ArrayAtom, RecordAtom, AnyRecordAtom, NoFieldParts, MoreFieldParts, NoTerms, MoreTerms}
use Rattle.wy_types.specs.declared.conjuncts.Signed as signed
use Rattle.wy_types.specs.declared.conjuncts.Part as parts
use Rattle.wy_types.specs.declared.conjuncts.Atom as atoms
use Rattle.wy_types.specs.declared.conjuncts.Atom.TheVariants as atom
use Rattle.wy_types.specs.declared.conjuncts.Conjunct as conjuncts
use Rattle.wy_types.specs.declared.table.Node.{Node}
use Rattle.wy_types.specs.declared.table.Node.TheVariants as node
use Rattle.wy_types.specs.Nodes.{Keeps, AreTermsBelow, ArePartsBelow, IsAtomBelow, AreAtomsBelow, AreConjunctsBelow, AreFieldsBelow}
use Rattle.wy_types.specs.Numbering.{put, put_ty, put_fields, put_conjuncts, put_atoms, put_atom, put_parts, put_terms}
use Rattle.wy_types.specs.Standing.{Stands, FieldsStand, ConjunctsStand, AtomsStand, AtomStands, PartsStand, TermsStand, Grows}
use Rattle.wy_types.proofs.PutLemmas.{same_grows, grows_more, put_grows, put_at}

-- ---- what stands for a type goes on to

mutual
  pub stands_still : (xs ys : List Node) → Keeps xs ys → (t : Ty) (n : ℕ) → Stands xs t n → Stands ys t n
  stands_still xs ys f NullTy n s = f n node.Null s
  stands_still xs ys f BoolTy n s = f n node.Bool s
  stands_still xs ys f IntTy n s = f n node.Int s
  stands_still xs ys f AnyTy n s = f n node.Any s
  stands_still xs ys f VoidTy n s = f n node.Void s
  stands_still xs ys f (RecordTy fs) n s = (s.0, (f n (node.Record s.0) s.1.0, fields_still xs ys f fs s.0 s.1.1))
  stands_still xs ys f (ArrayTy t) n s = (s.0, (f n (node.Array s.0) s.1.0, stands_still xs ys f t s.0 s.1.1))
  stands_still xs ys f (UnionTy a b) n s = (s.0, (s.1.0, (f n (node.Union s.0 s.1.0) s.1.1.0, (stands_still xs ys f a s.0 s.1.1.1.0, stands_still xs ys f b s.1.0 s.1.1.1.1))))
  stands_still xs ys f (InterTy a b) n s = (s.0, (s.1.0, (f n (node.Inter s.0 s.1.0) s.1.1.0, (stands_still xs ys f a s.0 s.1.1.1.0, stands_still xs ys f b s.1.0 s.1.1.1.1))))
  stands_still xs ys f (NotTy a) n s = (s.0, (f n (node.Not s.0) s.1.0, stands_still xs ys f a s.0 s.1.1))
  stands_still xs ys f (NamedTy m) n s = f n (node.Named m) s
  stands_still xs ys f (NormalTy cs) n s = (s.0, (f n (node.Normal s.0) s.1.0, conjuncts_still xs ys f cs s.0 s.1.1))

  fields_still : (xs ys : List Node) → Keeps xs ys → (fs : FieldTys) (ms : List (List ℕ × ℕ)) → FieldsStand xs fs ms → FieldsStand ys fs ms
  fields_still xs ys f NoFieldTys [] s = tt
  fields_still xs ys f NoFieldTys (m ∷ ms) s = absurd s
  fields_still xs ys f (MoreFieldTys name t rest) [] s = absurd s
  fields_still xs ys f (MoreFieldTys name t rest) (m ∷ ms) s = (s.0, (stands_still xs ys f t m.1 s.1.0, fields_still xs ys f rest ms s.1.1))

  conjuncts_still : (xs ys : List Node) → Keeps xs ys → (cs : Conjuncts) (ms : List (conjuncts.Conjunct ℕ)) → ConjunctsStand xs cs ms → ConjunctsStand ys cs ms
  conjuncts_still xs ys f NoConjuncts [] s = tt
  conjuncts_still xs ys f NoConjuncts (m ∷ ms) s = absurd s
  conjuncts_still xs ys f (MoreConjuncts p negatives rest) [] s = absurd s
  conjuncts_still xs ys f (MoreConjuncts p negatives rest) (m ∷ ms) s = (atom_still xs ys f p m.positive s.0, (atoms_still xs ys f negatives m.negatives s.1.0, conjuncts_still xs ys f rest ms s.1.1))

  atoms_still : (xs ys : List Node) → Keeps xs ys → (as' : Atoms) (ms : List (atoms.Atom ℕ)) → AtomsStand xs as' ms → AtomsStand ys as' ms
  atoms_still xs ys f NoAtoms [] s = tt
  atoms_still xs ys f NoAtoms (m ∷ ms) s = absurd s
  atoms_still xs ys f (MoreAtoms a rest) [] s = absurd s
  atoms_still xs ys f (MoreAtoms a rest) (m ∷ ms) s = (atom_still xs ys f a m s.0, atoms_still xs ys f rest ms s.1)

  atom_still : (xs ys : List Node) → Keeps xs ys → (a : Atom) (m : atoms.Atom ℕ) → AtomStands xs a m → AtomStands ys a m
  atom_still xs ys f NullAtom atom.Null s = tt
  atom_still xs ys f NullAtom atom.Bool s = absurd s
  atom_still xs ys f NullAtom atom.Int s = absurd s
  atom_still xs ys f NullAtom (atom.Array x) s = absurd s
  atom_still xs ys f NullAtom (atom.Record x) s = absurd s
  atom_still xs ys f NullAtom atom.AnyRecord s = absurd s
  atom_still xs ys f BoolAtom atom.Null s = absurd s
  atom_still xs ys f BoolAtom atom.Bool s = tt
  atom_still xs ys f BoolAtom atom.Int s = absurd s
  atom_still xs ys f BoolAtom (atom.Array x) s = absurd s
  atom_still xs ys f BoolAtom (atom.Record x) s = absurd s
  atom_still xs ys f BoolAtom atom.AnyRecord s = absurd s
  atom_still xs ys f IntAtom atom.Null s = absurd s
  atom_still xs ys f IntAtom atom.Bool s = absurd s
  atom_still xs ys f IntAtom atom.Int s = tt
  atom_still xs ys f IntAtom (atom.Array x) s = absurd s
  atom_still xs ys f IntAtom (atom.Record x) s = absurd s
  atom_still xs ys f IntAtom atom.AnyRecord s = absurd s
  atom_still xs ys f (ArrayAtom p) atom.Null s = absurd s
  atom_still xs ys f (ArrayAtom p) atom.Bool s = absurd s
  atom_still xs ys f (ArrayAtom p) atom.Int s = absurd s
  atom_still xs ys f (ArrayAtom p) (atom.Array x) s = terms_still xs ys f p x.terms s
  atom_still xs ys f (ArrayAtom p) (atom.Record x) s = absurd s
  atom_still xs ys f (ArrayAtom p) atom.AnyRecord s = absurd s
  atom_still xs ys f (RecordAtom ps) atom.Null s = absurd s
  atom_still xs ys f (RecordAtom ps) atom.Bool s = absurd s
  atom_still xs ys f (RecordAtom ps) atom.Int s = absurd s
  atom_still xs ys f (RecordAtom ps) (atom.Array x) s = absurd s
  atom_still xs ys f (RecordAtom ps) (atom.Record x) s = parts_still xs ys f ps x s
  atom_still xs ys f (RecordAtom ps) atom.AnyRecord s = absurd s
  atom_still xs ys f AnyRecordAtom atom.Null s = absurd s
  atom_still xs ys f AnyRecordAtom atom.Bool s = absurd s
  atom_still xs ys f AnyRecordAtom atom.Int s = absurd s
  atom_still xs ys f AnyRecordAtom (atom.Array x) s = absurd s
  atom_still xs ys f AnyRecordAtom (atom.Record x) s = absurd s
  atom_still xs ys f AnyRecordAtom atom.AnyRecord s = tt

  parts_still : (xs ys : List Node) → Keeps xs ys → (ps : FieldParts) (ms : List (List ℕ × parts.Part ℕ)) → PartsStand xs ps ms → PartsStand ys ps ms
  parts_still xs ys f NoFieldParts [] s = tt
  parts_still xs ys f NoFieldParts (m ∷ ms) s = absurd s
  parts_still xs ys f (MoreFieldParts name p rest) [] s = absurd s
  parts_still xs ys f (MoreFieldParts name p rest) (m ∷ ms) s = (s.0, (terms_still xs ys f p m.1.terms s.1.0, parts_still xs ys f rest ms s.1.1))

  terms_still : (xs ys : List Node) → Keeps xs ys → (p : Part) (ms : List (signed.Signed ℕ)) → TermsStand xs p ms → TermsStand ys p ms
  terms_still xs ys f NoTerms [] s = tt
  terms_still xs ys f NoTerms (m ∷ ms) s = absurd s
  terms_still xs ys f (MoreTerms t up inside rest) [] s = absurd s
  terms_still xs ys f (MoreTerms t up inside rest) (m ∷ ms) s = (stands_still xs ys f t m.term s.0, (s.1.0, (s.1.1.0, terms_still xs ys f rest ms s.1.1.1)))

pub stands_within : (ns : List Node) (t : Ty) (n : ℕ) → Stands ns t n → n < length ns
stands_within ns NullTy n s = slice_get_within ns n node.Null s
stands_within ns BoolTy n s = slice_get_within ns n node.Bool s
stands_within ns IntTy n s = slice_get_within ns n node.Int s
stands_within ns AnyTy n s = slice_get_within ns n node.Any s
stands_within ns VoidTy n s = slice_get_within ns n node.Void s
stands_within ns (RecordTy fs) n s = slice_get_within ns n (node.Record s.0) s.1.0
stands_within ns (ArrayTy t) n s = slice_get_within ns n (node.Array s.0) s.1.0
stands_within ns (UnionTy a b) n s = slice_get_within ns n (node.Union s.0 s.1.0) s.1.1.0
stands_within ns (InterTy a b) n s = slice_get_within ns n (node.Inter s.0 s.1.0) s.1.1.0
stands_within ns (NotTy a) n s = slice_get_within ns n (node.Not s.0) s.1.0
stands_within ns (NamedTy m) n s = slice_get_within ns n (node.Named m) s
stands_within ns (NormalTy cs) n s = slice_get_within ns n (node.Normal s.0) s.1.0

fields_within : (ns : List Node) (fs : FieldTys) (ms : List (List ℕ × ℕ)) → FieldsStand ns fs ms → AreFieldsBelow (length ns) ms
fields_within ns NoFieldTys [] s = tt
fields_within ns NoFieldTys (m ∷ ms) s = absurd s
fields_within ns (MoreFieldTys name t rest) [] s = absurd s
fields_within ns (MoreFieldTys name t rest) (m ∷ ms) s = (stands_within ns t m.1 s.1.0, fields_within ns rest ms s.1.1)

terms_within : (ns : List Node) (p : Part) (ms : List (signed.Signed ℕ)) → TermsStand ns p ms → AreTermsBelow (length ns) ms
terms_within ns NoTerms [] s = tt
terms_within ns NoTerms (m ∷ ms) s = absurd s
terms_within ns (MoreTerms t up inside rest) [] s = absurd s
terms_within ns (MoreTerms t up inside rest) (m ∷ ms) s = (stands_within ns t m.term s.0, terms_within ns rest ms s.1.1.1)

parts_within : (ns : List Node) (ps : FieldParts) (ms : List (List ℕ × parts.Part ℕ)) → PartsStand ns ps ms → ArePartsBelow (length ns) ms
parts_within ns NoFieldParts [] s = tt
parts_within ns NoFieldParts (m ∷ ms) s = absurd s
parts_within ns (MoreFieldParts name p rest) [] s = absurd s
parts_within ns (MoreFieldParts name p rest) (m ∷ ms) s = (terms_within ns p m.1.terms s.1.0, parts_within ns rest ms s.1.1)

atom_within : (ns : List Node) (a : Atom) (m : atoms.Atom ℕ) → AtomStands ns a m → IsAtomBelow (length ns) m
atom_within ns NullAtom atom.Null s = tt
atom_within ns NullAtom atom.Bool s = absurd s
atom_within ns NullAtom atom.Int s = absurd s
atom_within ns NullAtom (atom.Array x) s = absurd s
atom_within ns NullAtom (atom.Record x) s = absurd s
atom_within ns NullAtom atom.AnyRecord s = absurd s
atom_within ns BoolAtom atom.Null s = absurd s
atom_within ns BoolAtom atom.Bool s = tt
atom_within ns BoolAtom atom.Int s = absurd s
atom_within ns BoolAtom (atom.Array x) s = absurd s
atom_within ns BoolAtom (atom.Record x) s = absurd s
atom_within ns BoolAtom atom.AnyRecord s = absurd s
atom_within ns IntAtom atom.Null s = absurd s
atom_within ns IntAtom atom.Bool s = absurd s
atom_within ns IntAtom atom.Int s = tt
atom_within ns IntAtom (atom.Array x) s = absurd s
atom_within ns IntAtom (atom.Record x) s = absurd s
atom_within ns IntAtom atom.AnyRecord s = absurd s
atom_within ns (ArrayAtom p) atom.Null s = absurd s
atom_within ns (ArrayAtom p) atom.Bool s = absurd s
atom_within ns (ArrayAtom p) atom.Int s = absurd s
atom_within ns (ArrayAtom p) (atom.Array x) s = terms_within ns p x.terms s
atom_within ns (ArrayAtom p) (atom.Record x) s = absurd s
atom_within ns (ArrayAtom p) atom.AnyRecord s = absurd s
atom_within ns (RecordAtom ps) atom.Null s = absurd s
atom_within ns (RecordAtom ps) atom.Bool s = absurd s
atom_within ns (RecordAtom ps) atom.Int s = absurd s
atom_within ns (RecordAtom ps) (atom.Array x) s = absurd s
atom_within ns (RecordAtom ps) (atom.Record x) s = parts_within ns ps x s
atom_within ns (RecordAtom ps) atom.AnyRecord s = absurd s
atom_within ns AnyRecordAtom atom.Null s = absurd s
atom_within ns AnyRecordAtom atom.Bool s = absurd s
atom_within ns AnyRecordAtom atom.Int s = absurd s
atom_within ns AnyRecordAtom (atom.Array x) s = absurd s
atom_within ns AnyRecordAtom (atom.Record x) s = absurd s
atom_within ns AnyRecordAtom atom.AnyRecord s = tt

atoms_within : (ns : List Node) (as' : Atoms) (ms : List (atoms.Atom ℕ)) → AtomsStand ns as' ms → AreAtomsBelow (length ns) ms
atoms_within ns NoAtoms [] s = tt
atoms_within ns NoAtoms (m ∷ ms) s = absurd s
atoms_within ns (MoreAtoms a rest) [] s = absurd s
atoms_within ns (MoreAtoms a rest) (m ∷ ms) s = (atom_within ns a m s.0, atoms_within ns rest ms s.1)

conjuncts_within : (ns : List Node) (cs : Conjuncts) (ms : List (conjuncts.Conjunct ℕ)) → ConjunctsStand ns cs ms → AreConjunctsBelow (length ns) ms
conjuncts_within ns NoConjuncts [] s = tt
conjuncts_within ns NoConjuncts (m ∷ ms) s = absurd s
conjuncts_within ns (MoreConjuncts p negatives rest) [] s = absurd s
conjuncts_within ns (MoreConjuncts p negatives rest) (m ∷ ms) s = (atom_within ns p m.positive s.0, (atoms_within ns negatives m.negatives s.1.0, conjuncts_within ns rest ms s.1.1))

-- ---- what is put in stands

two_put : (ns xs ys : List Node) (a b : Ty) (x y : ℕ) → Grows ns xs × Stands xs a x → Grows xs ys × Stands ys b y → (Grows ns ys) × (Stands ys a x × Stands ys b y)
two_put ns xs ys a b x y f g = (grows_more ns xs ys f.0 g.0, (stands_still xs ys g.0.keeps a x f.1, g.1))

union_put : (ns xs ys : List Node) (a b : Ty) (x y : ℕ) → Grows ns xs × Stands xs a x → Grows xs ys × Stands ys b y → Grows ns (put ys (node.Union x y)).0 × Stands (put ys (node.Union x y)).0 (UnionTy a b) (put ys (node.Union x y)).1
union_put ns xs ys a b x y f g =
    let t = two_put ns xs ys a b x y f g in
    let h = put_grows ys (node.Union x y) (stands_within ys a x t.1.0, stands_within ys b y t.1.1) in
    (grows_more ns ys (put ys (node.Union x y)).0 t.0 h, (x, (y, (put_at ys (node.Union x y), (stands_still ys (put ys (node.Union x y)).0 h.keeps a x t.1.0, stands_still ys (put ys (node.Union x y)).0 h.keeps b y t.1.1)))))

inter_put : (ns xs ys : List Node) (a b : Ty) (x y : ℕ) → Grows ns xs × Stands xs a x → Grows xs ys × Stands ys b y → Grows ns (put ys (node.Inter x y)).0 × Stands (put ys (node.Inter x y)).0 (InterTy a b) (put ys (node.Inter x y)).1
inter_put ns xs ys a b x y f g =
    let t = two_put ns xs ys a b x y f g in
    let h = put_grows ys (node.Inter x y) (stands_within ys a x t.1.0, stands_within ys b y t.1.1) in
    (grows_more ns ys (put ys (node.Inter x y)).0 t.0 h, (x, (y, (put_at ys (node.Inter x y), (stands_still ys (put ys (node.Inter x y)).0 h.keeps a x t.1.0, stands_still ys (put ys (node.Inter x y)).0 h.keeps b y t.1.1)))))

not_put : (ns xs : List Node) (a : Ty) (x : ℕ) → Grows ns xs × Stands xs a x → Grows ns (put xs (node.Not x)).0 × Stands (put xs (node.Not x)).0 (NotTy a) (put xs (node.Not x)).1
not_put ns xs a x f =
    let h = put_grows xs (node.Not x) (stands_within xs a x f.1) in
    (grows_more ns xs (put xs (node.Not x)).0 f.0 h, (x, (put_at xs (node.Not x), stands_still xs (put xs (node.Not x)).0 h.keeps a x f.1)))

array_put : (ns xs : List Node) (a : Ty) (x : ℕ) → Grows ns xs × Stands xs a x → Grows ns (put xs (node.Array x)).0 × Stands (put xs (node.Array x)).0 (ArrayTy a) (put xs (node.Array x)).1
array_put ns xs a x f =
    let h = put_grows xs (node.Array x) (stands_within xs a x f.1) in
    (grows_more ns xs (put xs (node.Array x)).0 f.0 h, (x, (put_at xs (node.Array x), stands_still xs (put xs (node.Array x)).0 h.keeps a x f.1)))

record_put : (ns xs : List Node) (fs : FieldTys) (ms : List (List ℕ × ℕ)) → Grows ns xs × FieldsStand xs fs ms → Grows ns (put xs (node.Record ms)).0 × Stands (put xs (node.Record ms)).0 (RecordTy fs) (put xs (node.Record ms)).1
record_put ns xs fs ms f =
    let h = put_grows xs (node.Record ms) (fields_within xs fs ms f.1) in
    (grows_more ns xs (put xs (node.Record ms)).0 f.0 h, (ms, (put_at xs (node.Record ms), fields_still xs (put xs (node.Record ms)).0 h.keeps fs ms f.1)))

normal_put : (ns xs : List Node) (cs : Conjuncts) (ms : List (conjuncts.Conjunct ℕ)) → Grows ns xs × ConjunctsStand xs cs ms → Grows ns (put xs (node.Normal ms)).0 × Stands (put xs (node.Normal ms)).0 (NormalTy cs) (put xs (node.Normal ms)).1
normal_put ns xs cs ms f =
    let h = put_grows xs (node.Normal ms) (conjuncts_within xs cs ms f.1) in
    (grows_more ns xs (put xs (node.Normal ms)).0 f.0 h, (ms, (put_at xs (node.Normal ms), conjuncts_still xs (put xs (node.Normal ms)).0 h.keeps cs ms f.1)))

field_put : (ns xs ys : List Node) (name : List ℕ) (t : Ty) (fs : FieldTys) (x : ℕ) (ms : List (List ℕ × ℕ)) → Grows ns xs × Stands xs t x → Grows xs ys × FieldsStand ys fs ms → Grows ns ys × FieldsStand ys (MoreFieldTys name t fs) ((name, x) ∷ ms)
field_put ns xs ys name t fs x ms f g = (grows_more ns xs ys f.0 g.0, (refl, (stands_still xs ys g.0.keeps t x f.1, g.1)))

atom_put : (ns xs ys : List Node) (a : Atom) (more : Atoms) (x : atoms.Atom ℕ) (ms : List (atoms.Atom ℕ)) → Grows ns xs × AtomStands xs a x → Grows xs ys × AtomsStand ys more ms → Grows ns ys × AtomsStand ys (MoreAtoms a more) (x ∷ ms)
atom_put ns xs ys a more x ms f g = (grows_more ns xs ys f.0 g.0, (atom_still xs ys g.0.keeps a x f.1, g.1))

conjunct_put : (ns xs ys zs : List Node) (p : Atom) (negatives : Atoms) (cs : Conjuncts) (x : atoms.Atom ℕ) (ys' : List (atoms.Atom ℕ)) (ms : List (conjuncts.Conjunct ℕ)) → Grows ns xs × AtomStands xs p x → Grows xs ys × AtomsStand ys negatives ys' → Grows ys zs × ConjunctsStand zs cs ms
    → Grows ns zs × ConjunctsStand zs (MoreConjuncts p negatives cs) (record { positive = x; negatives = ys' } ∷ ms)
conjunct_put ns xs ys zs p negatives cs x ys' ms f g h =
    (grows_more ns ys zs (grows_more ns xs ys f.0 g.0) h.0, (atom_still ys zs h.0.keeps p x (atom_still xs ys g.0.keeps p x f.1), (atoms_still ys zs h.0.keeps negatives ys' g.1, h.1)))

part_put : (ns xs ys : List Node) (name : List ℕ) (p : Part) (ps : FieldParts) (ts : List (signed.Signed ℕ)) (ms : List (List ℕ × parts.Part ℕ)) → Grows ns xs × TermsStand xs p ts → Grows xs ys × PartsStand ys ps ms → Grows ns ys × PartsStand ys (MoreFieldParts name p ps) ((name, record { terms = ts }) ∷ ms)
part_put ns xs ys name p ps ts ms f g = (grows_more ns xs ys f.0 g.0, (refl, (terms_still xs ys g.0.keeps p ts f.1, g.1)))

term_put : (ns xs ys : List Node) (t : Ty) (up inside : Bool) (p : Part) (x : ℕ) (ms : List (signed.Signed ℕ)) → Grows ns xs × Stands xs t x → Grows xs ys × TermsStand ys p ms → Grows ns ys × TermsStand ys (MoreTerms t up inside p) (record { term = x; up = up; inside = inside } ∷ ms)
term_put ns xs ys t up inside p x ms f g = (grows_more ns xs ys f.0 g.0, (stands_still xs ys g.0.keeps t x f.1, (refl, (refl, g.1))))

mutual
  pub ty_put : (t : Ty) (ns : List Node) → Grows ns (put_ty ns t).0 × Stands (put_ty ns t).0 t (put_ty ns t).1
  ty_put NullTy ns = (put_grows ns node.Null tt, put_at ns node.Null)
  ty_put BoolTy ns = (put_grows ns node.Bool tt, put_at ns node.Bool)
  ty_put IntTy ns = (put_grows ns node.Int tt, put_at ns node.Int)
  ty_put AnyTy ns = (put_grows ns node.Any tt, put_at ns node.Any)
  ty_put VoidTy ns = (put_grows ns node.Void tt, put_at ns node.Void)
  ty_put (RecordTy fs) ns = record_put ns (put_fields ns fs).0 fs (put_fields ns fs).1 (fields_put fs ns)
  ty_put (ArrayTy t) ns = array_put ns (put_ty ns t).0 t (put_ty ns t).1 (ty_put t ns)
  ty_put (UnionTy a b) ns = union_put ns (put_ty ns a).0 (put_ty (put_ty ns a).0 b).0 a b (put_ty ns a).1 (put_ty (put_ty ns a).0 b).1 (ty_put a ns) (ty_put b (put_ty ns a).0)
  ty_put (InterTy a b) ns = inter_put ns (put_ty ns a).0 (put_ty (put_ty ns a).0 b).0 a b (put_ty ns a).1 (put_ty (put_ty ns a).0 b).1 (ty_put a ns) (ty_put b (put_ty ns a).0)
  ty_put (NotTy a) ns = not_put ns (put_ty ns a).0 a (put_ty ns a).1 (ty_put a ns)
  ty_put (NamedTy m) ns = (put_grows ns (node.Named m) tt, put_at ns (node.Named m))
  ty_put (NormalTy cs) ns = normal_put ns (put_conjuncts ns cs).0 cs (put_conjuncts ns cs).1 (conjuncts_put cs ns)

  fields_put : (fs : FieldTys) (ns : List Node) → Grows ns (put_fields ns fs).0 × FieldsStand (put_fields ns fs).0 fs (put_fields ns fs).1
  fields_put NoFieldTys ns = (same_grows ns, tt)
  fields_put (MoreFieldTys name t rest) ns = field_put ns (put_ty ns t).0 (put_fields (put_ty ns t).0 rest).0 name t rest (put_ty ns t).1 (put_fields (put_ty ns t).0 rest).1 (ty_put t ns) (fields_put rest (put_ty ns t).0)

  conjuncts_put : (cs : Conjuncts) (ns : List Node) → Grows ns (put_conjuncts ns cs).0 × ConjunctsStand (put_conjuncts ns cs).0 cs (put_conjuncts ns cs).1
  conjuncts_put NoConjuncts ns = (same_grows ns, tt)
  conjuncts_put (MoreConjuncts p negatives rest) ns =
      conjunct_put ns (put_atom ns p).0 (put_atoms (put_atom ns p).0 negatives).0 (put_conjuncts (put_atoms (put_atom ns p).0 negatives).0 rest).0 p negatives rest (put_atom ns p).1 (put_atoms (put_atom ns p).0 negatives).1
      (put_conjuncts (put_atoms (put_atom ns p).0 negatives).0 rest).1 (atom_is_put p ns) (atoms_put negatives (put_atom ns p).0) (conjuncts_put rest (put_atoms (put_atom ns p).0 negatives).0)

  atoms_put : (as' : Atoms) (ns : List Node) → Grows ns (put_atoms ns as').0 × AtomsStand (put_atoms ns as').0 as' (put_atoms ns as').1
  atoms_put NoAtoms ns = (same_grows ns, tt)
  atoms_put (MoreAtoms a rest) ns = atom_put ns (put_atom ns a).0 (put_atoms (put_atom ns a).0 rest).0 a rest (put_atom ns a).1 (put_atoms (put_atom ns a).0 rest).1 (atom_is_put a ns) (atoms_put rest (put_atom ns a).0)

  atom_is_put : (a : Atom) (ns : List Node) → Grows ns (put_atom ns a).0 × AtomStands (put_atom ns a).0 a (put_atom ns a).1
  atom_is_put NullAtom ns = (same_grows ns, tt)
  atom_is_put BoolAtom ns = (same_grows ns, tt)
  atom_is_put IntAtom ns = (same_grows ns, tt)
  atom_is_put (ArrayAtom p) ns = terms_put p ns
  atom_is_put (RecordAtom ps) ns = parts_put ps ns
  atom_is_put AnyRecordAtom ns = (same_grows ns, tt)

  parts_put : (ps : FieldParts) (ns : List Node) → Grows ns (put_parts ns ps).0 × PartsStand (put_parts ns ps).0 ps (put_parts ns ps).1
  parts_put NoFieldParts ns = (same_grows ns, tt)
  parts_put (MoreFieldParts name p rest) ns = part_put ns (put_terms ns p).0 (put_parts (put_terms ns p).0 rest).0 name p rest (put_terms ns p).1 (put_parts (put_terms ns p).0 rest).1 (terms_put p ns) (parts_put rest (put_terms ns p).0)

  terms_put : (p : Part) (ns : List Node) → Grows ns (put_terms ns p).0 × TermsStand (put_terms ns p).0 p (put_terms ns p).1
  terms_put NoTerms ns = (same_grows ns, tt)
  terms_put (MoreTerms t up inside rest) ns = term_put ns (put_ty ns t).0 (put_terms (put_ty ns t).0 rest).0 t up inside rest (put_ty ns t).1 (put_terms (put_ty ns t).0 rest).1 (ty_put t ns) (terms_put rest (put_ty ns t).0)
