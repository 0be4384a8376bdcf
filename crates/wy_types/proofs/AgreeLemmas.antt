-- A table in which the declared types stand says of a datum what the types do.
use Rattle.std.proofs.Common.{◌≡◌, ℕ, zero, suc, ◌≤◌, List, [], ◌∷◌, length, Bool, false, not, Option, Some, None, refl, ap, ◌∙◌, arith}
use Rattle.std.specs.Prelude.{slice_get}
use Rattle.std.specs.Option.{unwrap_or}
use Rattle.wy_core.specs.wy_value.Datum.{Datum, Data, Fields, no_items, item, no_fields, field}
use Rattle.wy_core.specs.wy_value.Datum as datum
use Rattle.wy_core.specs.wy_value.Values.{names_of}
use Rattle.wy_core.specs.Types.{Ty, FieldTys, Conjuncts, Atoms, Atom, FieldParts, Part, NullTy, BoolTy, IntTy, AnyTy, VoidTy, RecordTy, ArrayTy, UnionTy, InterTy, NotTy, NamedTy, NormalTy, NoFieldTys, MoreFieldTys, NoConjuncts, MoreConjuncts, NoAtoms, MoreAtoms, NullAtom, BoolAtom, IntAtom, ArrayAtom, RecordAtom, AnyRecordAtom, NoFieldParts, MoreFieldParts, NoTerms, MoreTerms}
use Rattle.wy_types.specs.declared.conjuncts.Signed as signed
use Rattle.wy_types.specs.declared.conjuncts.Part as parts
use Rattle.wy_types.specs.declared.conjuncts.Atom as atoms
use Rattle.wy_types.specs.declared.conjuncts.Atom.TheVariants as atom
use Rattle.wy_types.specs.declared.conjuncts.Conjunct as conjuncts
use Rattle.wy_types.specs.declared.table.Node.{Node}
use Rattle.wy_types.specs.declared.table.Node.TheVariants as node
use Rattle.wy_types.specs.declared.table.Definition.{Definition}
use Rattle.wy_types.specs.declared.table.Table.{Table}
use Rattle.wy_types.specs.Shape.{Shape, is_null, is_bool, is_int, is_record, part_in, each_in, fields_in, array_atom_in, record_atom_in, atom_in, none_in, any_in}
use Rattle.wy_types.specs.Membership.{node_of, definition_of, items_in, array_in, values_in, record_in, node_in, is_in, shape_of, item_readers, field_readers, member}
use Rattle.wy_types.specs.Membership as table_terms
use Rattle.wy_types.specs.Names.{Declared, terms_in, each_terms_in, parts_in, is_array_of, is_record_of, is_in_atom, is_in_none, is_in_normal, each_in_ty, is_array, fields_in_tys, is_record_with, ty_in, declared_in, named_in, is_in_ty}
use Rattle.wy_types.specs.Names as names_of_types
use Rattle.wy_types.specs.Ranked.{IsRanked}
use Rattle.wy_types.specs.Standing.{Stands, FieldsStand, ConjunctsStand, AtomsStand, AtomStands, PartsStand, TermsStand, NameStands, NamesStand}
use Rattle.wy_types.specs.Recursion.{IsDeclaredBelow, HasBareBelow, IsOrdered}
use Rattle.wy_types.specs.Agreement.{Agrees, AllAgree, ShapesAgree, nulls, bools, ints, arrays, records}
use Rattle.wy_types.proofs.RankedLemmas.{is_in-node}

module _ (ns : List Node) where
  -- ---- normal types

  terms_agree : (r : Bool → ℕ → Bool) (s : Bool → Ty → Bool) → Agrees ns r s → (p : Part) (xs : List (signed.Signed ℕ)) → TermsStand ns p xs → part_in r xs ≡ terms_in s p
  terms_agree r s e NoTerms [] h = refl
  terms_agree r s e NoTerms (x ∷ xs) h = absurd h
  terms_agree r s e (MoreTerms t up inside rest) [] h = absurd h
  terms_agree r s e (MoreTerms t up inside rest) (x ∷ xs) h =
      let first : r x.up x.term ≡ s up t = ap (λ u. r u x.term) h.1.0 ∙ e up t x.term h.0 in
      rw (first, h.1.1.0, terms_agree r s e rest xs h.1.1.1) refl

  each_agree : (rs : List (Bool → ℕ → Bool)) (ss : List (Bool → Ty → Bool)) → AllAgree ns rs ss → (p : Part) (xs : List (signed.Signed ℕ)) → TermsStand ns p xs → each_in rs xs ≡ each_terms_in ss p
  each_agree [] [] e p xs h = refl
  each_agree [] (s ∷ ss) e p xs h = absurd e
  each_agree (r ∷ rs) [] e p xs h = absurd e
  each_agree (r ∷ rs) (s ∷ ss) e p xs h = rw (terms_agree r s e.0 p xs h, each_agree rs ss e.1 p xs h) refl

  parts_agree : (names : List (List ℕ)) (rs : List (Bool → ℕ → Bool)) (ss : List (Bool → Ty → Bool)) → AllAgree ns rs ss → (ps : FieldParts) (xs : List (List ℕ × parts.Part ℕ)) → PartsStand ns ps xs → fields_in names rs xs ≡ parts_in names ss ps
  parts_agree [] [] [] e NoFieldParts [] h = refl
  parts_agree [] [] [] e NoFieldParts (x ∷ xs) h = absurd h
  parts_agree [] [] [] e (MoreFieldParts name p rest) [] h = absurd h
  parts_agree [] [] [] e (MoreFieldParts name p rest) (x ∷ xs) h = refl
  parts_agree [] [] (s ∷ ss) e ps xs h = absurd e
  parts_agree [] (r ∷ rs) [] e ps xs h = absurd e
  parts_agree [] (r ∷ rs) (s ∷ ss) e ps xs h = refl
  parts_agree (n ∷ names) [] [] e ps xs h = refl
  parts_agree (n ∷ names) [] (s ∷ ss) e ps xs h = absurd e
  parts_agree (n ∷ names) (r ∷ rs) [] e ps xs h = absurd e
  parts_agree (n ∷ names) (r ∷ rs) (s ∷ ss) e NoFieldParts [] h = refl
  parts_agree (n ∷ names) (r ∷ rs) (s ∷ ss) e NoFieldParts (x ∷ xs) h = absurd h
  parts_agree (n ∷ names) (r ∷ rs) (s ∷ ss) e (MoreFieldParts name p rest) [] h = absurd h
  parts_agree (n ∷ names) (r ∷ rs) (s ∷ ss) e (MoreFieldParts name p rest) (x ∷ xs) h =
      rw (h.0, terms_agree r s e.0 p x.1.terms h.1.0, parts_agree names rs ss e.1 rest xs h.1.1) refl

  null_agree : (x : Shape ℕ) (y : Shape Ty) → ShapesAgree ns x y → is_null x ≡ is_null y
  null_agree _ _ nulls = refl
  null_agree _ _ bools = refl
  null_agree _ _ ints = refl
  null_agree _ _ (arrays rs ss e) = refl
  null_agree _ _ (records names rs ss e) = refl

  bool_agree : (x : Shape ℕ) (y : Shape Ty) → ShapesAgree ns x y → is_bool x ≡ is_bool y
  bool_agree _ _ nulls = refl
  bool_agree _ _ bools = refl
  bool_agree _ _ ints = refl
  bool_agree _ _ (arrays rs ss e) = refl
  bool_agree _ _ (records names rs ss e) = refl

  int_agree : (x : Shape ℕ) (y : Shape Ty) → ShapesAgree ns x y → is_int x ≡ is_int y
  int_agree _ _ nulls = refl
  int_agree _ _ bools = refl
  int_agree _ _ ints = refl
  int_agree _ _ (arrays rs ss e) = refl
  int_agree _ _ (records names rs ss e) = refl

  record_agree : (x : Shape ℕ) (y : Shape Ty) → ShapesAgree ns x y → is_record x ≡ is_record y
  record_agree _ _ nulls = refl
  record_agree _ _ bools = refl
  record_agree _ _ ints = refl
  record_agree _ _ (arrays rs ss e) = refl
  record_agree _ _ (records names rs ss e) = refl

  array_atom_agree : (x : Shape ℕ) (y : Shape Ty) → ShapesAgree ns x y → (p : Part) (xs : List (signed.Signed ℕ)) → TermsStand ns p xs → array_atom_in x xs ≡ is_array_of y p
  array_atom_agree _ _ nulls p xs h = refl
  array_atom_agree _ _ bools p xs h = refl
  array_atom_agree _ _ ints p xs h = refl
  array_atom_agree _ _ (arrays rs ss e) p xs h = each_agree rs ss e p xs h
  array_atom_agree _ _ (records names rs ss e) p xs h = refl

  record_atom_agree : (x : Shape ℕ) (y : Shape Ty) → ShapesAgree ns x y → (ps : FieldParts) (xs : List (List ℕ × parts.Part ℕ)) → PartsStand ns ps xs → record_atom_in x xs ≡ is_record_of y ps
  record_atom_agree _ _ nulls ps xs h = refl
  record_atom_agree _ _ bools ps xs h = refl
  record_atom_agree _ _ ints ps xs h = refl
  record_atom_agree _ _ (arrays rs ss e) ps xs h = refl
  record_atom_agree _ _ (records names rs ss e) ps xs h = parts_agree names rs ss e ps xs h

  module _ (x : Shape ℕ) (y : Shape Ty) (agree : ShapesAgree ns x y) where
    atom_agrees : (a : Atom) (m : atoms.Atom ℕ) → AtomStands ns a m → atom_in x m ≡ is_in_atom y a
    atom_agrees NullAtom atom.Null h = null_agree x y agree
    atom_agrees NullAtom atom.Bool h = absurd h
    atom_agrees NullAtom atom.Int h = absurd h
    atom_agrees NullAtom (atom.Array m) h = absurd h
    atom_agrees NullAtom (atom.Record m) h = absurd h
    atom_agrees NullAtom atom.AnyRecord h = absurd h
    atom_agrees BoolAtom atom.Null h = absurd h
    atom_agrees BoolAtom atom.Bool h = bool_agree x y agree
    atom_agrees BoolAtom atom.Int h = absurd h
    atom_agrees BoolAtom (atom.Array m) h = absurd h
    atom_agrees BoolAtom (atom.Record m) h = absurd h
    atom_agrees BoolAtom atom.AnyRecord h = absurd h
    atom_agrees IntAtom atom.Null h = absurd h
    atom_agrees IntAtom atom.Bool h = absurd h
    atom_agrees IntAtom atom.Int h = int_agree x y agree
    atom_agrees IntAtom (atom.Array m) h = absurd h
    atom_agrees IntAtom (atom.Record m) h = absurd h
    atom_agrees IntAtom atom.AnyRecord h = absurd h
    atom_agrees (ArrayAtom p) atom.Null h = absurd h
    atom_agrees (ArrayAtom p) atom.Bool h = absurd h
    atom_agrees (ArrayAtom p) atom.Int h = absurd h
    atom_agrees (ArrayAtom p) (atom.Array m) h = array_atom_agree x y agree p m.terms h
    atom_agrees (ArrayAtom p) (atom.Record m) h = absurd h
    atom_agrees (ArrayAtom p) atom.AnyRecord h = absurd h
    atom_agrees (RecordAtom ps) atom.Null h = absurd h
    atom_agrees (RecordAtom ps) atom.Bool h = absurd h
    atom_agrees (RecordAtom ps) atom.Int h = absurd h
    atom_agrees (RecordAtom ps) (atom.Array m) h = absurd h
    atom_agrees (RecordAtom ps) (atom.Record m) h = record_atom_agree x y agree ps m h
    atom_agrees (RecordAtom ps) atom.AnyRecord h = absurd h
    atom_agrees AnyRecordAtom atom.Null h = absurd h
    atom_agrees AnyRecordAtom atom.Bool h = absurd h
    atom_agrees AnyRecordAtom atom.Int h = absurd h
    atom_agrees AnyRecordAtom (atom.Array m) h = absurd h
    atom_agrees AnyRecordAtom (atom.Record m) h = absurd h
    atom_agrees AnyRecordAtom atom.AnyRecord h = record_agree x y agree

    none_agrees : (as' : Atoms) (ms : List (atoms.Atom ℕ)) → AtomsStand ns as' ms → none_in x ms ≡ is_in_none y as'
    none_agrees NoAtoms [] h = refl
    none_agrees NoAtoms (m ∷ ms) h = absurd h
    none_agrees (MoreAtoms a rest) [] h = absurd h
    none_agrees (MoreAtoms a rest) (m ∷ ms) h = rw (atom_agrees a m h.0, none_agrees rest ms h.1) refl

    normal_agrees : (cs : Conjuncts) (ms : List (conjuncts.Conjunct ℕ)) → ConjunctsStand ns cs ms → any_in x ms ≡ is_in_normal y cs
    normal_agrees NoConjuncts [] h = refl
    normal_agrees NoConjuncts (m ∷ ms) h = absurd h
    normal_agrees (MoreConjuncts p negatives rest) [] h = absurd h
    normal_agrees (MoreConjuncts p negatives rest) (m ∷ ms) h = rw (atom_agrees p m.positive h.0, none_agrees negatives m.negatives h.1.0, normal_agrees rest ms h.1.1) refl

  -- ---- arrays and records

  items_agree : (rs : List (Bool → ℕ → Bool)) (ss : List (Bool → Ty → Bool)) → AllAgree ns rs ss → (up : Bool) (t : Ty) (n : ℕ) → Stands ns t n → items_in rs up n ≡ each_in_ty ss up t
  items_agree [] [] e up t n h = refl
  items_agree [] (s ∷ ss) e up t n h = absurd e
  items_agree (r ∷ rs) [] e up t n h = absurd e
  items_agree (r ∷ rs) (s ∷ ss) e up t n h = rw (e.0 up t n h, items_agree rs ss e.1 up t n h) refl

  array_agrees : (x : Shape ℕ) (y : Shape Ty) → ShapesAgree ns x y → (up : Bool) (t : Ty) (n : ℕ) → Stands ns t n → array_in x up n ≡ is_array y up t
  array_agrees _ _ nulls up t n h = refl
  array_agrees _ _ bools up t n h = refl
  array_agrees _ _ ints up t n h = refl
  array_agrees _ _ (arrays rs ss e) up t n h = items_agree rs ss e up t n h
  array_agrees _ _ (records names rs ss e) up t n h = refl

  values_agree : (names : List (List ℕ)) (rs : List (Bool → ℕ → Bool)) (ss : List (Bool → Ty → Bool)) → AllAgree ns rs ss → (up : Bool) (fs : FieldTys) (xs : List (List ℕ × ℕ)) → FieldsStand ns fs xs → values_in names rs up xs ≡ fields_in_tys names ss up fs
  values_agree [] [] [] e up NoFieldTys [] h = refl
  values_agree [] [] [] e up NoFieldTys (x ∷ xs) h = absurd h
  values_agree [] [] [] e up (MoreFieldTys name t rest) [] h = absurd h
  values_agree [] [] [] e up (MoreFieldTys name t rest) (x ∷ xs) h = refl
  values_agree [] [] (s ∷ ss) e up fs xs h = absurd e
  values_agree [] (r ∷ rs) [] e up fs xs h = absurd e
  values_agree [] (r ∷ rs) (s ∷ ss) e up fs xs h = refl
  values_agree (n ∷ names) [] [] e up fs xs h = refl
  values_agree (n ∷ names) [] (s ∷ ss) e up fs xs h = absurd e
  values_agree (n ∷ names) (r ∷ rs) [] e up fs xs h = absurd e
  values_agree (n ∷ names) (r ∷ rs) (s ∷ ss) e up NoFieldTys [] h = refl
  values_agree (n ∷ names) (r ∷ rs) (s ∷ ss) e up NoFieldTys (x ∷ xs) h = absurd h
  values_agree (n ∷ names) (r ∷ rs) (s ∷ ss) e up (MoreFieldTys name t rest) [] h = absurd h
  values_agree (n ∷ names) (r ∷ rs) (s ∷ ss) e up (MoreFieldTys name t rest) (x ∷ xs) h =
      rw (h.0, e.0 up t x.1 h.1.0, values_agree names rs ss e.1 up rest xs h.1.1) refl

  record_agrees : (x : Shape ℕ) (y : Shape Ty) → ShapesAgree ns x y → (up : Bool) (fs : FieldTys) (xs : List (List ℕ × ℕ)) → FieldsStand ns fs xs → record_in x up xs ≡ is_record_with y up fs
  record_agrees _ _ nulls up fs xs h = refl
  record_agrees _ _ bools up fs xs h = refl
  record_agrees _ _ ints up fs xs h = refl
  record_agrees _ _ (arrays rs ss e) up fs xs h = refl
  record_agrees _ _ (records names rs ss e) up fs xs h = values_agree names rs ss e up fs xs h

-- ---- bare names

bare_more : (names : List Declared) (order : ℕ → ℕ) (i j : ℕ) → i ≤ j → (t : Ty) → HasBareBelow names order i t → HasBareBelow names order j t
bare_more names order i j le NullTy b = tt
bare_more names order i j le BoolTy b = tt
bare_more names order i j le IntTy b = tt
bare_more names order i j le AnyTy b = tt
bare_more names order i j le VoidTy b = tt
bare_more names order i j le (RecordTy fs) b = tt
bare_more names order i j le (ArrayTy t) b = tt
bare_more names order i j le (UnionTy s t) b = (bare_more names order i j le s b.0, bare_more names order i j le t b.1)
bare_more names order i j le (InterTy s t) b = (bare_more names order i j le s b.0, bare_more names order i j le t b.1)
bare_more names order i j le (NotTy t) b = bare_more names order i j le t b
bare_more names order i j le (NamedTy n) b = by (slice_get names n) b
  where
    by : (o : Option Declared) → IsDeclaredBelow (order n) i o → IsDeclaredBelow (order n) j o
    by None b = tt
    by (Some d) b = omega (arith, b, le)
bare_more names order i j le (NormalTy cs) b = tt

all_bare : (names : List Declared) (order : ℕ → ℕ) → IsOrdered names order → (t : Ty) → HasBareBelow names order (length names) t
all_bare names order o NullTy = tt
all_bare names order o BoolTy = tt
all_bare names order o IntTy = tt
all_bare names order o AnyTy = tt
all_bare names order o VoidTy = tt
all_bare names order o (RecordTy fs) = tt
all_bare names order o (ArrayTy t) = tt
all_bare names order o (UnionTy s t) = (all_bare names order o s, all_bare names order o t)
all_bare names order o (InterTy s t) = (all_bare names order o s, all_bare names order o t)
all_bare names order o (NotTy t) = all_bare names order o t
all_bare names order o (NamedTy n) = by (slice_get names n) refl
  where
    by : (d : Option Declared) → slice_get names n ≡ d → IsDeclaredBelow (order n) (length names) d
    by None e = tt
    by (Some d) e = (o n d e).0
all_bare names order o (NormalTy cs) = tt

-- ---- terms

node_is : (table : Table) (n : ℕ) (m : Node) → slice_get table.nodes n ≡ Some m → node_of table n ≡ m
node_is table n m e = ap (λ o. unwrap_or o node.Void) e

module _ (table : Table) (names : List Declared) (order : ℕ → ℕ) (ordered : IsOrdered names order) (stand : NamesStand table.nodes names table.definitions) (rank : ℕ → ℕ) (k : ℕ) (ranked : IsRanked table rank k) where
  module _ (x : Shape ℕ) (y : Shape Ty) (agree : ShapesAgree table.nodes x y) where
    term_is : (up : Bool) (n : ℕ) (m : Node) → slice_get table.nodes n ≡ Some m → is_in table k x up n ≡ node_in table (is_in table k x) x up m
    term_is up n m e = is_in-node table rank k ranked x up n ∙ ap (node_in table (is_in table k x) x up) (node_is table n m e)

    ty_agrees : (named : Bool → ℕ → Bool) (j : ℕ) → ((up : Bool) (n : ℕ) → IsDeclaredBelow (order n) j (slice_get names n) → table_terms.named_in (is_in table k x) up (definition_of table n) ≡ named up n)
        → (t : Ty) (up : Bool) (n : ℕ) → HasBareBelow names order j t → Stands table.nodes t n → is_in table k x up n ≡ ty_in named y up t
    ty_agrees named j e NullTy up n b s = term_is up n node.Null s ∙ null_agree table.nodes x y agree
    ty_agrees named j e BoolTy up n b s = term_is up n node.Bool s ∙ bool_agree table.nodes x y agree
    ty_agrees named j e IntTy up n b s = term_is up n node.Int s ∙ int_agree table.nodes x y agree
    ty_agrees named j e AnyTy up n b s = term_is up n node.Any s
    ty_agrees named j e VoidTy up n b s = term_is up n node.Void s
    ty_agrees named j e (RecordTy fs) up n b s = term_is up n (node.Record s.0) s.1.0 ∙ record_agrees table.nodes x y agree up fs s.0 s.1.1
    ty_agrees named j e (ArrayTy t) up n b s = term_is up n (node.Array s.0) s.1.0 ∙ array_agrees table.nodes x y agree up t s.0 s.1.1
    ty_agrees named j e (UnionTy a c) up n b s =
        term_is up n (node.Union s.0 s.1.0) s.1.1.0 ∙ rw (ty_agrees named j e a up s.0 b.0 s.1.1.1.0, ty_agrees named j e c up s.1.0 b.1 s.1.1.1.1) refl
    ty_agrees named j e (InterTy a c) up n b s =
        term_is up n (node.Inter s.0 s.1.0) s.1.1.0 ∙ rw (ty_agrees named j e a up s.0 b.0 s.1.1.1.0, ty_agrees named j e c up s.1.0 b.1 s.1.1.1.1) refl
    ty_agrees named j e (NotTy a) up n b s = term_is up n (node.Not s.0) s.1.0 ∙ ap not (ty_agrees named j e a (not up) s.0 b s.1.1)
    ty_agrees named j e (NamedTy m) up n b s = term_is up n (node.Named m) s ∙ e up m b
    ty_agrees named j e (NormalTy cs) up n b s = term_is up n (node.Normal s.0) s.1.0 ∙ normal_agrees table.nodes x y agree cs s.0 s.1.1

    declared_agrees : (j : ℕ) → ((up : Bool) (n : ℕ) → IsDeclaredBelow (order n) j (slice_get names n) → table_terms.named_in (is_in table k x) up (definition_of table n) ≡ named_in names j y up n)
        → (up : Bool) (n : ℕ) (d : Option Declared) (z : Option Definition) → slice_get names n ≡ d → NameStands table.nodes d z → IsDeclaredBelow (order n) (suc j) d → table_terms.named_in (is_in table k x) up z ≡ declared_in (named_in names j y) y up d
    declared_agrees j e up n None None g s b = refl
    declared_agrees j e up n None (Some z) g s b = absurd s
    declared_agrees j e up n (Some d) None g s b = absurd s
    declared_agrees j e up n (Some d) (Some z) g s b =
        let bare = bare_more names order (order n) j (omega (arith, b)) d.ty (ordered n d g).1 in
        rw (s.0, ty_agrees (named_in names j y) j e d.ty up z.term bare s.1) refl

    nothing_below : (r : ℕ) (d : Option Declared) (z : Option Definition) (at : Bool → ℕ → Bool) (up : Bool) → NameStands table.nodes d z → IsDeclaredBelow r 0 d → table_terms.named_in at up z ≡ false
    nothing_below r None None at up s b = refl
    nothing_below r None (Some z) at up s b = absurd s
    nothing_below r (Some d) None at up s b = absurd s
    nothing_below r (Some d) (Some z) at up s b = absurd (omega (arith, b))

    name_agrees : (j : ℕ) (up : Bool) (n : ℕ) → IsDeclaredBelow (order n) j (slice_get names n) → table_terms.named_in (is_in table k x) up (definition_of table n) ≡ named_in names j y up n
    name_agrees zero up n b = nothing_below (order n) (slice_get names n) (definition_of table n) (is_in table k x) up (stand n) b
    name_agrees (suc j) up n b = declared_agrees j (name_agrees j) up n (slice_get names n) (definition_of table n) refl (stand n) b

    is_in_agrees : Agrees table.nodes (is_in table k x) (is_in_ty names y)
    is_in_agrees up t n s = ty_agrees (named_in names (length names) y) (length names) (name_agrees (length names)) t up n (all_bare names order ordered t) s

  -- ---- data

  mutual
    pub shapes_agree : (d : Datum) → ShapesAgree table.nodes (shape_of table k d) (names_of_types.shape_of names d)
    shapes_agree datum.Null = nulls
    shapes_agree (datum.Truth b) = bools
    shapes_agree (datum.Whole z) = ints
    shapes_agree (datum.Array items) = arrays (item_readers table k items) (names_of_types.item_readers names items) (items_readers_agree items)
    shapes_agree (datum.Record fields) = records (names_of fields) (field_readers table k fields) (names_of_types.field_readers names fields) (fields_readers_agree fields)

    items_readers_agree : (items : Data) → AllAgree table.nodes (item_readers table k items) (names_of_types.item_readers names items)
    items_readers_agree no_items = tt
    items_readers_agree (item d rest) = (is_in_agrees (shape_of table k d) (names_of_types.shape_of names d) (shapes_agree d), items_readers_agree rest)

    fields_readers_agree : (fields : Fields) → AllAgree table.nodes (field_readers table k fields) (names_of_types.field_readers names fields)
    fields_readers_agree no_fields = tt
    fields_readers_agree (field name d rest) = (is_in_agrees (shape_of table k d) (names_of_types.shape_of names d) (shapes_agree d), fields_readers_agree rest)

  -- a term says of a datum what its type does
  pub member_agrees : (d : Datum) (up : Bool) (t : Ty) (n : ℕ) → Stands table.nodes t n → member table k d up n ≡ is_in_ty names (names_of_types.shape_of names d) up t
  member_agrees d up t n s = is_in_agrees (shape_of table k d) (names_of_types.shape_of names d) (shapes_agree d) up t n s

  -- a name says of a datum what it does among the types
  pub named_agrees : (d : Datum) (up : Bool) (m : ℕ) → table_terms.named_in (is_in table k (shape_of table k d)) up (definition_of table m) ≡ is_in_ty names (names_of_types.shape_of names d) up (NamedTy m)
  named_agrees d up m = name_agrees (shape_of table k d) (names_of_types.shape_of names d) (shapes_agree d) (length names) up m (all_bare names order ordered (NamedTy m))
