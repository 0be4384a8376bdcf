-- What a table says of a datum is what the types of its numbers do.
use Rattle.std.proofs.Common.{◌≡◌, ℕ, zero, suc, ◌<◌, ◌≤◌, List, [], ◌∷◌, length, Bool, not, refl, sym, ap, ◌∙◌, arith, inl, inr}
use Rattle.std.specs.Option.{unwrap_or}
use Rattle.std.proofs.lemmas.Option.{slice_get_past}
use Rattle.wy_core.proofs.wy_lemmas_proofs.Choices.{at_or_past as low_or_past}
use Rattle.wy_core.specs.wy_value.Datum.{Datum, Data, Fields, no_items, item, no_fields, field}
use Rattle.wy_core.specs.wy_value.Datum as datum
use Rattle.wy_core.specs.wy_value.Values.{names_of}
use Rattle.wy_core.specs.Types.{Ty, RecordTy, ArrayTy, NotTy, NormalTy, ArrayAtom, RecordAtom}
use Rattle.wy_types.specs.declared.conjuncts.Signed as signed
use Rattle.wy_types.specs.declared.conjuncts.Part as parts
use Rattle.wy_types.specs.declared.conjuncts.Atom as atoms
use Rattle.wy_types.specs.declared.conjuncts.Atom.TheVariants as atom
use Rattle.wy_types.specs.declared.conjuncts.Conjunct as conjuncts
use Rattle.wy_types.specs.declared.table.Node.{Node}
use Rattle.wy_types.specs.declared.table.Node.TheVariants as node
use Rattle.wy_types.specs.declared.table.Table.{Table}
use Rattle.wy_types.specs.Shape.{Shape, NullShape, BoolShape, IntShape, ArrayShape, RecordShape, is_null, is_bool, is_int, is_record, part_in, each_in, fields_in, array_atom_in, record_atom_in, atom_in, none_in, any_in}
use Rattle.wy_types.specs.Membership.{node_of, items_in, array_in, values_in, record_in, node_in, is_in, shape_of, item_readers, field_readers}
use Rattle.wy_types.specs.Names.{Declared, terms_in, each_terms_in, parts_in, is_array_of, is_record_of, is_in_atom, is_in_none, is_in_normal, each_in_ty, is_array, fields_in_tys, is_record_with, ty_in, named_in, is_in_ty}
use Rattle.wy_types.specs.Names as names_of_types
use Rattle.wy_types.specs.Ranked.{IsRanked}
use Rattle.wy_types.specs.Nodes.{AreTermsBelow, AreFieldsBelow, ArePartsBelow, IsAtomBelow, AreAtomsBelow, AreConjunctsBelow, IsAfterParts, AreGrounded}
use Rattle.wy_types.specs.Standing.{NamesStand}
use Rattle.wy_types.specs.Recursion.{IsOrdered}
use Rattle.wy_types.specs.Reading.{part_at, field_parts_at, atom_at, atoms_at, conjuncts_at, field_tys_at, node_ty, ty_at}
use Rattle.wy_types.proofs.RankedLemmas.{is_in-node}
use Rattle.wy_types.proofs.RankLemmas.{after_sides}
use Rattle.wy_types.proofs.AgreeLemmas.{named_agrees}

-- ---- numbers below a term's own decide its type

module _ (f g : ℕ → Ty) (i : ℕ) (e : (u : ℕ) → u < i → f u ≡ g u) where
  terms_same : (ss : List (signed.Signed ℕ)) → AreTermsBelow i ss → part_at f ss ≡ part_at g ss
  terms_same [] b = refl
  terms_same (s ∷ ss) b = rw (e s.term b.0, terms_same ss b.1) refl

  parts_same : (fs : List (List ℕ × parts.Part ℕ)) → ArePartsBelow i fs → field_parts_at f fs ≡ field_parts_at g fs
  parts_same [] b = refl
  parts_same (p ∷ fs) b = rw (terms_same p.1.terms b.0, parts_same fs b.1) refl

  atom_same : (a : atoms.Atom ℕ) → IsAtomBelow i a → atom_at f a ≡ atom_at g a
  atom_same atom.Null b = refl
  atom_same atom.Bool b = refl
  atom_same atom.Int b = refl
  atom_same (atom.Array p) b = ap ArrayAtom (terms_same p.terms b)
  atom_same (atom.Record fs) b = ap RecordAtom (parts_same fs b)
  atom_same atom.AnyRecord b = refl

  atoms_same : (xs : List (atoms.Atom ℕ)) → AreAtomsBelow i xs → atoms_at f xs ≡ atoms_at g xs
  atoms_same [] b = refl
  atoms_same (a ∷ more) b = rw (atom_same a b.0, atoms_same more b.1) refl

  conjuncts_same : (cs : List (conjuncts.Conjunct ℕ)) → AreConjunctsBelow i cs → conjuncts_at f cs ≡ conjuncts_at g cs
  conjuncts_same [] b = refl
  conjuncts_same (c ∷ cs) b = rw (atom_same c.positive b.0, atoms_same c.negatives b.1.0, conjuncts_same cs b.1.1) refl

  fields_same : (fs : List (List ℕ × ℕ)) → AreFieldsBelow i fs → field_tys_at f fs ≡ field_tys_at g fs
  fields_same [] b = refl
  fields_same (p ∷ fs) b = rw (e p.1 b.0, fields_same fs b.1) refl

  node_ty_same : (n : Node) → IsAfterParts i n → node_ty f n ≡ node_ty g n
  node_ty_same node.Null b = refl
  node_ty_same node.Bool b = refl
  node_ty_same node.Int b = refl
  node_ty_same node.Any b = refl
  node_ty_same node.Void b = refl
  node_ty_same (node.Record fs) b = ap RecordTy (fields_same fs b)
  node_ty_same (node.Array t) b = ap ArrayTy (e t b)
  node_ty_same (node.Union x y) b = rw (e x b.0, e y b.1) refl
  node_ty_same (node.Inter x y) b = rw (e x b.0, e y b.1) refl
  node_ty_same (node.Not x) b = ap NotTy (e x b)
  node_ty_same (node.Named m) b = refl
  node_ty_same (node.Normal cs) b = ap NormalTy (conjuncts_same cs b)

ty_at-deeper : (table : Table) → AreGrounded table.nodes → (k t : ℕ) → t < k → ty_at table k t ≡ ty_at table (suc k) t
ty_at-deeper table grounded zero t lt = absurd (omega (arith, lt))
ty_at-deeper table grounded (suc k) t lt =
    node_ty_same (ty_at table k) (ty_at table (suc k)) t (λ u less. ty_at-deeper table grounded k u (omega (arith, less, lt))) (node_of table t) (after_sides table grounded t)

past_void : (table : Table) (t : ℕ) → length table.nodes ≤ t → node_of table t ≡ node.Void
past_void table t le = ap (λ o. unwrap_or o node.Void) (slice_get_past table.nodes t le)

-- the type of a number is that of its node
pub ty_at-node : (table : Table) → AreGrounded table.nodes → (t : ℕ) → ty_at table (suc (length table.nodes)) t ≡ node_ty (ty_at table (suc (length table.nodes))) (node_of table t)
ty_at-node table grounded t = elim (low_or_past t (length table.nodes)) as (λ _. ty_at table (suc (length table.nodes)) t ≡ node_ty (ty_at table (suc (length table.nodes))) (node_of table t)) [
  | inl low ↦ ty_at-deeper table grounded (suc (length table.nodes)) t (omega (arith, low))
  | inr past ↦ ap (node_ty (ty_at table (length table.nodes))) (past_void table t past) ∙ ap (node_ty (ty_at table (suc (length table.nodes)))) (sym (past_void table t past))
]

-- ---- readers of numbers and of their types

abbrev pub AgreeAt : (ℕ → Ty) → (Bool → ℕ → Bool) → (Bool → Ty → Bool) → Type 0
AgreeAt at r s = (up : Bool) (n : ℕ) → r up n ≡ s up (at n)

abbrev pub AllAgreeAt : (ℕ → Ty) → List (Bool → ℕ → Bool) → List (Bool → Ty → Bool) → Type 0
AllAgreeAt at [] [] = Unit {0}
AllAgreeAt at (r ∷ rs) (s ∷ ss) = AgreeAt at r s × AllAgreeAt at rs ss
AllAgreeAt at [] (s ∷ ss) = ⊥
AllAgreeAt at (r ∷ rs) [] = ⊥

pub data ShapesAgreeAt (at : ℕ → Ty) : Shape ℕ → Shape Ty → Type 0 where
  nulls : ShapesAgreeAt at NullShape NullShape
  bools : ShapesAgreeAt at BoolShape BoolShape
  ints : ShapesAgreeAt at IntShape IntShape
  arrays : (rs : List (Bool → ℕ → Bool)) (ss : List (Bool → Ty → Bool)) → AllAgreeAt at rs ss → ShapesAgreeAt at (ArrayShape rs) (ArrayShape ss)
  records : (names : List (List ℕ)) (rs : List (Bool → ℕ → Bool)) (ss : List (Bool → Ty → Bool)) → AllAgreeAt at rs ss → ShapesAgreeAt at (RecordShape names rs) (RecordShape names ss)

module _ (at : ℕ → Ty) where
  terms_agree : (r : Bool → ℕ → Bool) (s : Bool → Ty → Bool) → AgreeAt at r s → (xs : List (signed.Signed ℕ)) → part_in r xs ≡ terms_in s (part_at at xs)
  terms_agree r s e [] = refl
  terms_agree r s e (x ∷ xs) = rw (e x.up x.term, terms_agree r s e xs) refl

  each_agree : (rs : List (Bool → ℕ → Bool)) (ss : List (Bool → Ty → Bool)) → AllAgreeAt at rs ss → (xs : List (signed.Signed ℕ)) → each_in rs xs ≡ each_terms_in ss (part_at at xs)
  each_agree [] [] e xs = refl
  each_agree [] (s ∷ ss) e xs = absurd e
  each_agree (r ∷ rs) [] e xs = absurd e
  each_agree (r ∷ rs) (s ∷ ss) e xs = rw (terms_agree r s e.0 xs, each_agree rs ss e.1 xs) refl

  parts_agree : (names : List (List ℕ)) (rs : List (Bool → ℕ → Bool)) (ss : List (Bool → Ty → Bool)) → AllAgreeAt at rs ss → (xs : List (List ℕ × parts.Part ℕ)) → fields_in names rs xs ≡ parts_in names ss (field_parts_at at xs)
  parts_agree [] [] [] e [] = refl
  parts_agree [] [] [] e (x ∷ xs) = refl
  parts_agree [] [] (s ∷ ss) e xs = absurd e
  parts_agree [] (r ∷ rs) [] e xs = absurd e
  parts_agree [] (r ∷ rs) (s ∷ ss) e [] = refl
  parts_agree [] (r ∷ rs) (s ∷ ss) e (x ∷ xs) = refl
  parts_agree (n ∷ names) [] [] e [] = refl
  parts_agree (n ∷ names) [] [] e (x ∷ xs) = refl
  parts_agree (n ∷ names) [] (s ∷ ss) e xs = absurd e
  parts_agree (n ∷ names) (r ∷ rs) [] e xs = absurd e
  parts_agree (n ∷ names) (r ∷ rs) (s ∷ ss) e [] = refl
  parts_agree (n ∷ names) (r ∷ rs) (s ∷ ss) e (x ∷ xs) = rw (terms_agree r s e.0 x.1.terms, parts_agree names rs ss e.1 xs) refl

  values_agree : (names : List (List ℕ)) (rs : List (Bool → ℕ → Bool)) (ss : List (Bool → Ty → Bool)) → AllAgreeAt at rs ss → (up : Bool) (xs : List (List ℕ × ℕ)) → values_in names rs up xs ≡ fields_in_tys names ss up (field_tys_at at xs)
  values_agree [] [] [] e up [] = refl
  values_agree [] [] [] e up (x ∷ xs) = refl
  values_agree [] [] (s ∷ ss) e up xs = absurd e
  values_agree [] (r ∷ rs) [] e up xs = absurd e
  values_agree [] (r ∷ rs) (s ∷ ss) e up [] = refl
  values_agree [] (r ∷ rs) (s ∷ ss) e up (x ∷ xs) = refl
  values_agree (n ∷ names) [] [] e up [] = refl
  values_agree (n ∷ names) [] [] e up (x ∷ xs) = refl
  values_agree (n ∷ names) [] (s ∷ ss) e up xs = absurd e
  values_agree (n ∷ names) (r ∷ rs) [] e up xs = absurd e
  values_agree (n ∷ names) (r ∷ rs) (s ∷ ss) e up [] = refl
  values_agree (n ∷ names) (r ∷ rs) (s ∷ ss) e up (x ∷ xs) = rw (e.0 up x.1, values_agree names rs ss e.1 up xs) refl

  items_agree : (rs : List (Bool → ℕ → Bool)) (ss : List (Bool → Ty → Bool)) → AllAgreeAt at rs ss → (up : Bool) (n : ℕ) → items_in rs up n ≡ each_in_ty ss up (at n)
  items_agree [] [] e up n = refl
  items_agree [] (s ∷ ss) e up n = absurd e
  items_agree (r ∷ rs) [] e up n = absurd e
  items_agree (r ∷ rs) (s ∷ ss) e up n = rw (e.0 up n, items_agree rs ss e.1 up n) refl

  null_agree : (x : Shape ℕ) (y : Shape Ty) → ShapesAgreeAt at x y → is_null x ≡ is_null y
  null_agree _ _ nulls = refl
  null_agree _ _ bools = refl
  null_agree _ _ ints = refl
  null_agree _ _ (arrays rs ss e) = refl
  null_agree _ _ (records names rs ss e) = refl

  bool_agree : (x : Shape ℕ) (y : Shape Ty) → ShapesAgreeAt at x y → is_bool x ≡ is_bool y
  bool_agree _ _ nulls = refl
  bool_agree _ _ bools = refl
  bool_agree _ _ ints = refl
  bool_agree _ _ (arrays rs ss e) = refl
  bool_agree _ _ (records names rs ss e) = refl

  int_agree : (x : Shape ℕ) (y : Shape Ty) → ShapesAgreeAt at x y → is_int x ≡ is_int y
  int_agree _ _ nulls = refl
  int_agree _ _ bools = refl
  int_agree _ _ ints = refl
  int_agree _ _ (arrays rs ss e) = refl
  int_agree _ _ (records names rs ss e) = refl

  any_record_agree : (x : Shape ℕ) (y : Shape Ty) → ShapesAgreeAt at x y → is_record x ≡ is_record y
  any_record_agree _ _ nulls = refl
  any_record_agree _ _ bools = refl
  any_record_agree _ _ ints = refl
  any_record_agree _ _ (arrays rs ss e) = refl
  any_record_agree _ _ (records names rs ss e) = refl

  array_atom_agree : (x : Shape ℕ) (y : Shape Ty) → ShapesAgreeAt at x y → (xs : List (signed.Signed ℕ)) → array_atom_in x xs ≡ is_array_of y (part_at at xs)
  array_atom_agree _ _ nulls xs = refl
  array_atom_agree _ _ bools xs = refl
  array_atom_agree _ _ ints xs = refl
  array_atom_agree _ _ (arrays rs ss e) xs = each_agree rs ss e xs
  array_atom_agree _ _ (records names rs ss e) xs = refl

  record_atom_agree : (x : Shape ℕ) (y : Shape Ty) → ShapesAgreeAt at x y → (xs : List (List ℕ × parts.Part ℕ)) → record_atom_in x xs ≡ is_record_of y (field_parts_at at xs)
  record_atom_agree _ _ nulls xs = refl
  record_atom_agree _ _ bools xs = refl
  record_atom_agree _ _ ints xs = refl
  record_atom_agree _ _ (arrays rs ss e) xs = refl
  record_atom_agree _ _ (records names rs ss e) xs = parts_agree names rs ss e xs

  array_agrees : (x : Shape ℕ) (y : Shape Ty) → ShapesAgreeAt at x y → (up : Bool) (n : ℕ) → array_in x up n ≡ is_array y up (at n)
  array_agrees _ _ nulls up n = refl
  array_agrees _ _ bools up n = refl
  array_agrees _ _ ints up n = refl
  array_agrees _ _ (arrays rs ss e) up n = items_agree rs ss e up n
  array_agrees _ _ (records names rs ss e) up n = refl

  record_agrees : (x : Shape ℕ) (y : Shape Ty) → ShapesAgreeAt at x y → (up : Bool) (xs : List (List ℕ × ℕ)) → record_in x up xs ≡ is_record_with y up (field_tys_at at xs)
  record_agrees _ _ nulls up xs = refl
  record_agrees _ _ bools up xs = refl
  record_agrees _ _ ints up xs = refl
  record_agrees _ _ (arrays rs ss e) up xs = refl
  record_agrees _ _ (records names rs ss e) up xs = values_agree names rs ss e up xs

  module _ (x : Shape ℕ) (y : Shape Ty) (agree : ShapesAgreeAt at x y) where
    atom_agrees : (a : atoms.Atom ℕ) → atom_in x a ≡ is_in_atom y (atom_at at a)
    atom_agrees atom.Null = null_agree x y agree
    atom_agrees atom.Bool = bool_agree x y agree
    atom_agrees atom.Int = int_agree x y agree
    atom_agrees (atom.Array p) = array_atom_agree x y agree p.terms
    atom_agrees (atom.Record fs) = record_atom_agree x y agree fs
    atom_agrees atom.AnyRecord = any_record_agree x y agree

    none_agrees : (xs : List (atoms.Atom ℕ)) → none_in x xs ≡ is_in_none y (atoms_at at xs)
    none_agrees [] = refl
    none_agrees (a ∷ more) = rw (atom_agrees a, none_agrees more) refl

    pub conjuncts_agree : (cs : List (conjuncts.Conjunct ℕ)) → any_in x cs ≡ is_in_normal y (conjuncts_at at cs)
    conjuncts_agree [] = refl
    conjuncts_agree (c ∷ cs) = rw (atom_agrees c.positive, none_agrees c.negatives, conjuncts_agree cs) refl

-- ---- terms

module _ (table : Table) (names : List Declared) (order : ℕ → ℕ) (ordered : IsOrdered names order) (stand : NamesStand table.nodes names table.definitions) (grounded : AreGrounded table.nodes) (rank : ℕ → ℕ) (ranked : IsRanked table rank (suc (length table.nodes))) where
  abbrev pub depth : ℕ
  depth = suc (length table.nodes)

  abbrev pub at : ℕ → Ty
  at = ty_at table depth

  module _ (d : Datum) (agree : ShapesAgreeAt at (shape_of table depth d) (names_of_types.shape_of names d)) where
    abbrev pub here : Bool → ℕ → Bool
    here = is_in table depth (shape_of table depth d)

    abbrev pub there : Bool → Ty → Bool
    there = is_in_ty names (names_of_types.shape_of names d)

    node_agrees : (j : ℕ) → ((up : Bool) (u : ℕ) → u < j → here up u ≡ there up (at u)) → (up : Bool) (n : Node) → IsAfterParts j n → node_in table here (shape_of table depth d) up n ≡ there up (node_ty at n)
    node_agrees j e up node.Null b = null_agree at (shape_of table depth d) (names_of_types.shape_of names d) agree
    node_agrees j e up node.Bool b = bool_agree at (shape_of table depth d) (names_of_types.shape_of names d) agree
    node_agrees j e up node.Int b = int_agree at (shape_of table depth d) (names_of_types.shape_of names d) agree
    node_agrees j e up node.Any b = refl
    node_agrees j e up node.Void b = refl
    node_agrees j e up (node.Record fs) b = record_agrees at (shape_of table depth d) (names_of_types.shape_of names d) agree up fs
    node_agrees j e up (node.Array t) b = array_agrees at (shape_of table depth d) (names_of_types.shape_of names d) agree up t
    node_agrees j e up (node.Union s t) b = rw (e up s b.0, e up t b.1) refl
    node_agrees j e up (node.Inter s t) b = rw (e up s b.0, e up t b.1) refl
    node_agrees j e up (node.Not s) b = ap not (e (not up) s b)
    node_agrees j e up (node.Named m) b = named_agrees table names order ordered stand rank depth ranked d up m
    node_agrees j e up (node.Normal cs) b = conjuncts_agree at (shape_of table depth d) (names_of_types.shape_of names d) agree cs

    below_agrees : (j : ℕ) (up : Bool) (n : ℕ) → n < j → here up n ≡ there up (at n)
    below_agrees zero up n lt = absurd (omega (arith, lt))
    below_agrees (suc j) up n lt =
        is_in-node table rank depth ranked (shape_of table depth d) up n
        ∙ node_agrees n (λ u m less. below_agrees j u m (omega (arith, less, lt))) up (node_of table n) (after_sides table grounded n)
        ∙ ap (there up) (sym (ty_at-node table grounded n))

    number_agrees : AgreeAt at here there
    number_agrees up n = below_agrees (suc n) up n (omega arith)

  mutual
    pub shapes_agree_at : (d : Datum) → ShapesAgreeAt at (shape_of table depth d) (names_of_types.shape_of names d)
    shapes_agree_at datum.Null = nulls
    shapes_agree_at (datum.Truth b) = bools
    shapes_agree_at (datum.Whole z) = ints
    shapes_agree_at (datum.Array items) = arrays (item_readers table depth items) (names_of_types.item_readers names items) (items_agree_at items)
    shapes_agree_at (datum.Record fields) = records (names_of fields) (field_readers table depth fields) (names_of_types.field_readers names fields) (fields_agree_at fields)

    items_agree_at : (items : Data) → AllAgreeAt at (item_readers table depth items) (names_of_types.item_readers names items)
    items_agree_at no_items = tt
    items_agree_at (item d rest) = (number_agrees d (shapes_agree_at d), items_agree_at rest)

    fields_agree_at : (fields : Fields) → AllAgreeAt at (field_readers table depth fields) (names_of_types.field_readers names fields)
    fields_agree_at no_fields = tt
    fields_agree_at (field name d rest) = (number_agrees d (shapes_agree_at d), fields_agree_at rest)

  -- conjuncts say of a datum what the normal type does that they make
  pub conjuncts_say : (d : Datum) (cs : List (conjuncts.Conjunct ℕ)) → any_in (shape_of table depth d) cs ≡ is_in_normal (names_of_types.shape_of names d) (conjuncts_at at cs)
  conjuncts_say d cs = conjuncts_agree at (shape_of table depth d) (names_of_types.shape_of names d) (shapes_agree_at d) cs
