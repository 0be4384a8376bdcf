-- Equal types have one number, and a number is that of one type.
use Rattle.std.proofs.Common.{◌≡◌, ℕ, suc, List, [], ◌∷◌, length, Some, refl, sym, ap, subst, ◌∙◌, ◌↔◌}
use Rattle.std.specs.Prelude.{slice_get}
use Rattle.std.specs.Option.{unwrap_or}
use Rattle.wy_core.specs.Types.{Ty, FieldTys, Conjuncts, Atoms, Atom, FieldParts, Part, NullTy, BoolTy, IntTy, AnyTy, VoidTy, RecordTy, ArrayTy, UnionTy, InterTy, NotTy, NamedTy, NormalTy, NoFieldTys, MoreFieldTys, NoConjuncts, MoreConjuncts, NoAtoms, MoreAtoms, NullAtom, BoolAtom, IntAtom, ArrayAtom, RecordAtom, AnyRecordAtom, NoFieldParts, MoreFieldParts, NoTerms, MoreTerms}
use Rattle.wy_types.specs.declared.conjuncts.Signed as signed
use Rattle.wy_types.specs.declared.conjuncts.Part as parts
use Rattle.wy_types.specs.declared.conjuncts.Atom as atoms
use Rattle.wy_types.specs.declared.conjuncts.Atom.TheVariants as atom
use Rattle.wy_types.specs.declared.conjuncts.Conjunct as conjuncts
use Rattle.wy_types.specs.declared.table.Node.{Node}
use Rattle.wy_types.specs.declared.table.Node.TheVariants as node
use Rattle.wy_types.specs.declared.table.Table.{Table}
use Rattle.wy_types.specs.Names.{Declared}
use Rattle.wy_types.specs.Nodes.{AreOnce, AreGrounded}
use Rattle.wy_types.specs.Standing.{Stands, FieldsStand, ConjunctsStand, AtomsStand, AtomStands, PartsStand, TermsStand}
use Rattle.wy_types.specs.Reading.{part_at, field_parts_at, atom_at, atoms_at, conjuncts_at, field_tys_at, node_ty, ty_at}
use Rattle.wy_types.specs.Questions.{numbered}
use Rattle.wy_types.proofs.ReadingLemmas.{ty_at-node}
use Rattle.wy_types.proofs.QuestionLemmas.{is_asked}

-- ---- a number is that of one type

module _ (table : Table) (grounded : AreGrounded table.nodes) where
  abbrev at : ℕ → Ty
  at = ty_at table (suc (length table.nodes))

  node_at : (n : ℕ) (m : Node) → slice_get table.nodes n ≡ Some m → at n ≡ node_ty at m
  node_at n m e = ty_at-node table grounded n ∙ ap (λ o. node_ty at (unwrap_or o node.Void)) e

  mutual
    pub read_back : (t : Ty) (n : ℕ) → Stands table.nodes t n → at n ≡ t
    read_back NullTy n s = node_at n node.Null s
    read_back BoolTy n s = node_at n node.Bool s
    read_back IntTy n s = node_at n node.Int s
    read_back AnyTy n s = node_at n node.Any s
    read_back VoidTy n s = node_at n node.Void s
    read_back (RecordTy fs) n s = node_at n (node.Record s.0) s.1.0 ∙ ap RecordTy (fields_back fs s.0 s.1.1)
    read_back (ArrayTy t) n s = node_at n (node.Array s.0) s.1.0 ∙ ap ArrayTy (read_back t s.0 s.1.1)
    read_back (UnionTy a b) n s = let x = read_back a s.0 s.1.1.1.0 in let y = read_back b s.1.0 s.1.1.1.1 in node_at n (node.Union s.0 s.1.0) s.1.1.0 ∙ (λ i. UnionTy (x i) (y i))
    read_back (InterTy a b) n s = let x = read_back a s.0 s.1.1.1.0 in let y = read_back b s.1.0 s.1.1.1.1 in node_at n (node.Inter s.0 s.1.0) s.1.1.0 ∙ (λ i. InterTy (x i) (y i))
    read_back (NotTy a) n s = node_at n (node.Not s.0) s.1.0 ∙ ap NotTy (read_back a s.0 s.1.1)
    read_back (NamedTy m) n s = node_at n (node.Named m) s
    read_back (NormalTy cs) n s = node_at n (node.Normal s.0) s.1.0 ∙ ap NormalTy (conjuncts_back cs s.0 s.1.1)

    fields_back : (fs : FieldTys) (xs : List (List ℕ × ℕ)) → FieldsStand table.nodes fs xs → field_tys_at at xs ≡ fs
    fields_back NoFieldTys [] s = refl
    fields_back NoFieldTys (x ∷ xs) s = absurd s
    fields_back (MoreFieldTys name t rest) [] s = absurd s
    fields_back (MoreFieldTys name t rest) (x ∷ xs) s = let e = read_back t x.1 s.1.0 in let f = fields_back rest xs s.1.1 in λ i. MoreFieldTys (s.0 i) (e i) (f i)

    conjuncts_back : (cs : Conjuncts) (xs : List (conjuncts.Conjunct ℕ)) → ConjunctsStand table.nodes cs xs → conjuncts_at at xs ≡ cs
    conjuncts_back NoConjuncts [] s = refl
    conjuncts_back NoConjuncts (x ∷ xs) s = absurd s
    conjuncts_back (MoreConjuncts p negatives rest) [] s = absurd s
    conjuncts_back (MoreConjuncts p negatives rest) (x ∷ xs) s =
        let e = atom_back p x.positive s.0 in let f = atoms_back negatives x.negatives s.1.0 in let g = conjuncts_back rest xs s.1.1 in λ i. MoreConjuncts (e i) (f i) (g i)

    atoms_back : (as' : Atoms) (xs : List (atoms.Atom ℕ)) → AtomsStand table.nodes as' xs → atoms_at at xs ≡ as'
    atoms_back NoAtoms [] s = refl
    atoms_back NoAtoms (x ∷ xs) s = absurd s
    atoms_back (MoreAtoms a rest) [] s = absurd s
    atoms_back (MoreAtoms a rest) (x ∷ xs) s = let e = atom_back a x s.0 in let f = atoms_back rest xs s.1 in λ i. MoreAtoms (e i) (f i)

    atom_back : (a : Atom) (m : atoms.Atom ℕ) → AtomStands table.nodes a m → atom_at at m ≡ a
    atom_back NullAtom atom.Null s = refl
    atom_back NullAtom atom.Bool s = absurd s
    atom_back NullAtom atom.Int s = absurd s
    atom_back NullAtom (atom.Array x) s = absurd s
    atom_back NullAtom (atom.Record x) s = absurd s
    atom_back NullAtom atom.AnyRecord s = absurd s
    atom_back BoolAtom atom.Null s = absurd s
    atom_back BoolAtom atom.Bool s = refl
    atom_back BoolAtom atom.Int s = absurd s
    atom_back BoolAtom (atom.Array x) s = absurd s
    atom_back BoolAtom (atom.Record x) s = absurd s
    atom_back BoolAtom atom.AnyRecord s = absurd s
    atom_back IntAtom atom.Null s = absurd s
    atom_back IntAtom atom.Bool s = absurd s
    atom_back IntAtom atom.Int s = refl
    atom_back IntAtom (atom.Array x) s = absurd s
    atom_back IntAtom (atom.Record x) s = absurd s
    atom_back IntAtom atom.AnyRecord s = absurd s
    atom_back (ArrayAtom p) atom.Null s = absurd s
    atom_back (ArrayAtom p) atom.Bool s = absurd s
    atom_back (ArrayAtom p) atom.Int s = absurd s
    atom_back (ArrayAtom p) (atom.Array x) s = ap ArrayAtom (terms_back p x.terms s)
    atom_back (ArrayAtom p) (atom.Record x) s = absurd s
    atom_back (ArrayAtom p) atom.AnyRecord s = absurd s
    atom_back (RecordAtom ps) atom.Null s = absurd s
    atom_back (RecordAtom ps) atom.Bool s = absurd s
    atom_back (RecordAtom ps) atom.Int s = absurd s
    atom_back (RecordAtom ps) (atom.Array x) s = absurd s
    atom_back (RecordAtom ps) (atom.Record x) s = ap RecordAtom (parts_back ps x s)
    atom_back (RecordAtom ps) atom.AnyRecord s = absurd s
    atom_back AnyRecordAtom atom.Null s = absurd s
    atom_back AnyRecordAtom atom.Bool s = absurd s
    atom_back AnyRecordAtom atom.Int s = absurd s
    atom_back AnyRecordAtom (atom.Array x) s = absurd s
    atom_back AnyRecordAtom (atom.Record x) s = absurd s
    atom_back AnyRecordAtom atom.AnyRecord s = refl

    parts_back : (ps : FieldParts) (xs : List (List ℕ × parts.Part ℕ)) → PartsStand table.nodes ps xs → field_parts_at at xs ≡ ps
    parts_back NoFieldParts [] s = refl
    parts_back NoFieldParts (x ∷ xs) s = absurd s
    parts_back (MoreFieldParts name p rest) [] s = absurd s
    parts_back (MoreFieldParts name p rest) (x ∷ xs) s = let e = terms_back p x.1.terms s.1.0 in let f = parts_back rest xs s.1.1 in λ i. MoreFieldParts (s.0 i) (e i) (f i)

    terms_back : (p : Part) (xs : List (signed.Signed ℕ)) → TermsStand table.nodes p xs → part_at at xs ≡ p
    terms_back NoTerms [] s = refl
    terms_back NoTerms (x ∷ xs) s = absurd s
    terms_back (MoreTerms t up inside rest) [] s = absurd s
    terms_back (MoreTerms t up inside rest) (x ∷ xs) s = let e = read_back t x.term s.0 in let f = terms_back rest xs s.1.1.1 in λ i. MoreTerms (e i) (s.1.0 i) (s.1.1.0 i) (f i)

-- ---- equal types have one number

module _ (ns : List Node) (once : AreOnce ns) where
  both_at : (f : Node) (g : Node) (m n : ℕ) → f ≡ g → slice_get ns m ≡ Some f → slice_get ns n ≡ Some g → m ≡ n
  both_at f g m n e s r = once m n f s (r ∙ ap Some (sym e))

  null_is : (m : atoms.Atom ℕ) → AtomStands ns NullAtom m → m ≡ atom.Null
  null_is atom.Null s = refl
  null_is atom.Bool s = absurd s
  null_is atom.Int s = absurd s
  null_is (atom.Array x) s = absurd s
  null_is (atom.Record x) s = absurd s
  null_is atom.AnyRecord s = absurd s

  bool_is : (m : atoms.Atom ℕ) → AtomStands ns BoolAtom m → m ≡ atom.Bool
  bool_is atom.Null s = absurd s
  bool_is atom.Bool s = refl
  bool_is atom.Int s = absurd s
  bool_is (atom.Array x) s = absurd s
  bool_is (atom.Record x) s = absurd s
  bool_is atom.AnyRecord s = absurd s

  int_is : (m : atoms.Atom ℕ) → AtomStands ns IntAtom m → m ≡ atom.Int
  int_is atom.Null s = absurd s
  int_is atom.Bool s = absurd s
  int_is atom.Int s = refl
  int_is (atom.Array x) s = absurd s
  int_is (atom.Record x) s = absurd s
  int_is atom.AnyRecord s = absurd s

  any_record_is : (m : atoms.Atom ℕ) → AtomStands ns AnyRecordAtom m → m ≡ atom.AnyRecord
  any_record_is atom.Null s = absurd s
  any_record_is atom.Bool s = absurd s
  any_record_is atom.Int s = absurd s
  any_record_is (atom.Array x) s = absurd s
  any_record_is (atom.Record x) s = absurd s
  any_record_is atom.AnyRecord s = refl

  array_is : (p : Part) (m : atoms.Atom ℕ) → AtomStands ns (ArrayAtom p) m → (x : parts.Part ℕ) × ((m ≡ atom.Array x) × TermsStand ns p x.terms)
  array_is p atom.Null s = absurd s
  array_is p atom.Bool s = absurd s
  array_is p atom.Int s = absurd s
  array_is p (atom.Array x) s = (x, (refl, s))
  array_is p (atom.Record x) s = absurd s
  array_is p atom.AnyRecord s = absurd s

  record_is : (ps : FieldParts) (m : atoms.Atom ℕ) → AtomStands ns (RecordAtom ps) m → (x : List (List ℕ × parts.Part ℕ)) × ((m ≡ atom.Record x) × PartsStand ns ps x)
  record_is ps atom.Null s = absurd s
  record_is ps atom.Bool s = absurd s
  record_is ps atom.Int s = absurd s
  record_is ps (atom.Array x) s = absurd s
  record_is ps (atom.Record x) s = (x, (refl, s))
  record_is ps atom.AnyRecord s = absurd s

  mutual
    pub one_number : (t : Ty) (m n : ℕ) → Stands ns t m → Stands ns t n → m ≡ n
    one_number NullTy m n s r = both_at node.Null node.Null m n refl s r
    one_number BoolTy m n s r = both_at node.Bool node.Bool m n refl s r
    one_number IntTy m n s r = both_at node.Int node.Int m n refl s r
    one_number AnyTy m n s r = both_at node.Any node.Any m n refl s r
    one_number VoidTy m n s r = both_at node.Void node.Void m n refl s r
    one_number (RecordTy fs) m n s r = both_at (node.Record s.0) (node.Record r.0) m n (ap node.Record (one_fields fs s.0 r.0 s.1.1 r.1.1)) s.1.0 r.1.0
    one_number (ArrayTy t) m n s r = both_at (node.Array s.0) (node.Array r.0) m n (ap node.Array (one_number t s.0 r.0 s.1.1 r.1.1)) s.1.0 r.1.0
    one_number (UnionTy a b) m n s r =
        let x = one_number a s.0 r.0 s.1.1.1.0 r.1.1.1.0 in let y = one_number b s.1.0 r.1.0 s.1.1.1.1 r.1.1.1.1 in
        both_at (node.Union s.0 s.1.0) (node.Union r.0 r.1.0) m n (λ i. node.Union (x i) (y i)) s.1.1.0 r.1.1.0
    one_number (InterTy a b) m n s r =
        let x = one_number a s.0 r.0 s.1.1.1.0 r.1.1.1.0 in let y = one_number b s.1.0 r.1.0 s.1.1.1.1 r.1.1.1.1 in
        both_at (node.Inter s.0 s.1.0) (node.Inter r.0 r.1.0) m n (λ i. node.Inter (x i) (y i)) s.1.1.0 r.1.1.0
    one_number (NotTy a) m n s r = both_at (node.Not s.0) (node.Not r.0) m n (ap node.Not (one_number a s.0 r.0 s.1.1 r.1.1)) s.1.0 r.1.0
    one_number (NamedTy k) m n s r = both_at (node.Named k) (node.Named k) m n refl s r
    one_number (NormalTy cs) m n s r = both_at (node.Normal s.0) (node.Normal r.0) m n (ap node.Normal (one_conjuncts cs s.0 r.0 s.1.1 r.1.1)) s.1.0 r.1.0

    one_fields : (fs : FieldTys) (xs ys : List (List ℕ × ℕ)) → FieldsStand ns fs xs → FieldsStand ns fs ys → xs ≡ ys
    one_fields NoFieldTys [] [] s r = refl
    one_fields NoFieldTys [] (y ∷ ys) s r = absurd r
    one_fields NoFieldTys (x ∷ xs) ys s r = absurd s
    one_fields (MoreFieldTys name t rest) [] ys s r = absurd s
    one_fields (MoreFieldTys name t rest) (x ∷ xs) [] s r = absurd r
    one_fields (MoreFieldTys name t rest) (x ∷ xs) (y ∷ ys) s r =
        let e = s.0 ∙ sym r.0 in let f = one_number t x.1 y.1 s.1.0 r.1.0 in let g = one_fields rest xs ys s.1.1 r.1.1 in λ i. (e i, f i) ∷ g i

    one_conjuncts : (cs : Conjuncts) (xs ys : List (conjuncts.Conjunct ℕ)) → ConjunctsStand ns cs xs → ConjunctsStand ns cs ys → xs ≡ ys
    one_conjuncts NoConjuncts [] [] s r = refl
    one_conjuncts NoConjuncts [] (y ∷ ys) s r = absurd r
    one_conjuncts NoConjuncts (x ∷ xs) ys s r = absurd s
    one_conjuncts (MoreConjuncts p negatives rest) [] ys s r = absurd s
    one_conjuncts (MoreConjuncts p negatives rest) (x ∷ xs) [] s r = absurd r
    one_conjuncts (MoreConjuncts p negatives rest) (x ∷ xs) (y ∷ ys) s r =
        let e = one_atom p x.positive y.positive s.0 r.0 in let f = one_atoms negatives x.negatives y.negatives s.1.0 r.1.0 in let g = one_conjuncts rest xs ys s.1.1 r.1.1 in
        λ i. record { positive = e i; negatives = f i } ∷ g i

    one_atoms : (as' : Atoms) (xs ys : List (atoms.Atom ℕ)) → AtomsStand ns as' xs → AtomsStand ns as' ys → xs ≡ ys
    one_atoms NoAtoms [] [] s r = refl
    one_atoms NoAtoms [] (y ∷ ys) s r = absurd r
    one_atoms NoAtoms (x ∷ xs) ys s r = absurd s
    one_atoms (MoreAtoms a rest) [] ys s r = absurd s
    one_atoms (MoreAtoms a rest) (x ∷ xs) [] s r = absurd r
    one_atoms (MoreAtoms a rest) (x ∷ xs) (y ∷ ys) s r = let e = one_atom a x y s.0 r.0 in let f = one_atoms rest xs ys s.1 r.1 in λ i. e i ∷ f i

    one_atom : (a : Atom) (x y : atoms.Atom ℕ) → AtomStands ns a x → AtomStands ns a y → x ≡ y
    one_atom NullAtom x y s r = null_is x s ∙ sym (null_is y r)
    one_atom BoolAtom x y s r = bool_is x s ∙ sym (bool_is y r)
    one_atom IntAtom x y s r = int_is x s ∙ sym (int_is y r)
    one_atom (ArrayAtom p) x y s r =
        let u = array_is p x s in let v = array_is p y r in let e = one_terms p u.0.terms v.0.terms u.1.1 v.1.1 in
        u.1.0 ∙ (λ i. atom.Array (record { terms = e i })) ∙ sym v.1.0
    one_atom (RecordAtom ps) x y s r = let u = record_is ps x s in let v = record_is ps y r in u.1.0 ∙ ap atom.Record (one_parts ps u.0 v.0 u.1.1 v.1.1) ∙ sym v.1.0
    one_atom AnyRecordAtom x y s r = any_record_is x s ∙ sym (any_record_is y r)

    one_parts : (ps : FieldParts) (xs ys : List (List ℕ × parts.Part ℕ)) → PartsStand ns ps xs → PartsStand ns ps ys → xs ≡ ys
    one_parts NoFieldParts [] [] s r = refl
    one_parts NoFieldParts [] (y ∷ ys) s r = absurd r
    one_parts NoFieldParts (x ∷ xs) ys s r = absurd s
    one_parts (MoreFieldParts name p rest) [] ys s r = absurd s
    one_parts (MoreFieldParts name p rest) (x ∷ xs) [] s r = absurd r
    one_parts (MoreFieldParts name p rest) (x ∷ xs) (y ∷ ys) s r =
        let e = s.0 ∙ sym r.0 in let f = one_terms p x.1.terms y.1.terms s.1.0 r.1.0 in let g = one_parts rest xs ys s.1.1 r.1.1 in λ i. (e i, record { terms = f i }) ∷ g i

    one_terms : (p : Part) (xs ys : List (signed.Signed ℕ)) → TermsStand ns p xs → TermsStand ns p ys → xs ≡ ys
    one_terms NoTerms [] [] s r = refl
    one_terms NoTerms [] (y ∷ ys) s r = absurd r
    one_terms NoTerms (x ∷ xs) ys s r = absurd s
    one_terms (MoreTerms t up inside rest) [] ys s r = absurd s
    one_terms (MoreTerms t up inside rest) (x ∷ xs) [] s r = absurd r
    one_terms (MoreTerms t up inside rest) (x ∷ xs) (y ∷ ys) s r =
        let e = one_number t x.term y.term s.0 r.0 in let f = s.1.0 ∙ sym r.1.0 in let g = s.1.1.0 ∙ sym r.1.1.0 in let h = one_terms rest xs ys s.1.1.1 r.1.1.1 in
        λ i. record { term = e i; up = f i; inside = g i } ∷ h i

-- ---- the two types of a question

pub one_type_a_number : (names : List Declared) (a b : Ty) → ((numbered names a b).first ≡ (numbered names a b).second) ↔ (a ≡ b)
one_type_a_number names a b =
    let q = numbered names a b in
    let asked = is_asked names a b in (
      λ e. sym (read_back q.table asked.grounded a q.first asked.first_stands) ∙ ap (ty_at q.table (suc (length q.table.nodes))) e ∙ read_back q.table asked.grounded b q.second asked.second_stands,
      λ e. one_number q.table.nodes asked.once b q.first q.second (subst (λ (t : Ty). Stands q.table.nodes t q.first) e asked.first_stands) asked.second_stands,
    )
