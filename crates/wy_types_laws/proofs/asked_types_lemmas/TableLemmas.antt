-- The names of records go from types into a table, from there into conjuncts, and back into types.
use Rattle.std.proofs.Common.{◌≡◌, ℕ, zero, suc, List, [], ◌∷◌, ◌++◌, Bool, true, false, cond, not, ◌||◌, Option, Some, None, refl, sym, ap, subst}
use Rattle.std.specs.Prelude.{slice_get, if◌then◌else◌}
use Rattle.std.specs.Option.{unwrap_or}
use Rattle.std.specs.List.{list_any}
use Rattle.wy_core.specs.Types.{Ty, FieldTys, Conjuncts, Atoms, Atom, FieldParts, Part, NullTy, BoolTy, IntTy, AnyTy, VoidTy, RecordTy, ArrayTy, UnionTy, InterTy, NotTy, NamedTy, NormalTy, NoFieldTys, MoreFieldTys, NoConjuncts, MoreConjuncts, NoAtoms, MoreAtoms, NullAtom, BoolAtom, IntAtom, ArrayAtom, RecordAtom, AnyRecordAtom, NoFieldParts, MoreFieldParts, NoTerms, MoreTerms}
use Rattle.wy_lemmas.proofs.Choices.{both_parts as both}
use Rattle.wy_types.specs.declared.conjuncts.Signed as signed
use Rattle.wy_types.specs.declared.conjuncts.Part as parts
use Rattle.wy_types.specs.declared.conjuncts.Atom as atoms
use Rattle.wy_types.specs.declared.conjuncts.Atom.TheVariants as atom
use Rattle.wy_types.specs.declared.conjuncts.Conjunct as conjuncts
use Rattle.wy_types.specs.declared.table.Node.{Node}
use Rattle.wy_types.specs.declared.table.Node.TheVariants as node
use Rattle.wy_types.specs.declared.table.Table.{Table}
use Rattle.wy_types.specs.declared.table.Definition.{Definition}
use Rattle.wy_types.specs.Claims.{EachOf}
use Rattle.wy_types.specs.Names.{Declared}
use Rattle.wy_types.specs.Nodes.{same_node}
use Rattle.wy_types.specs.Numbering.{put, put_ty, put_fields, put_conjuncts, put_atoms, put_atom, put_parts, put_terms, put_declared}
use Rattle.wy_types.specs.Membership.{node_of, definition_of}
use Rattle.wy_types.specs.Same as same
use Rattle.wy_types.specs.Merge as merging
use Rattle.wy_types.specs.Conjuncts.{same_term, parts_of, named_dnf, node_dnf, dnf, dnf_more, dnf_part, with_sides}
use Rattle.wy_types.specs.Reading.{ty_at, node_ty, conjuncts_at, atoms_at, atom_at, field_parts_at, part_at, field_tys_at}
use Rattle.wy_types.specs.Questions.{numbered}
use Rattle.std.specs.Str.{bytes_eq}
use Rattle.wy_types.proofs.ClaimLemmas.{each_append}
use Rattle.wy_types_laws.specs.asked_types.Rows.{names_of_tys, names_of_parts, IsRow, HasRows, FieldsHaveRows, ConjunctsHaveRows, AtomsHaveRows, AtomHasRows, PartsHaveRows, TermsHaveRows, NamesHaveRows}

-- ---- tables and conjuncts

abbrev pub names_at : {X : Type 0} → List (List ℕ × X) → List (List ℕ)
names_at [] = []
names_at (f ∷ fs) = f.0 ∷ names_at fs

abbrev pub AtomHasRow : atoms.Atom ℕ → Type 0
AtomHasRow (atom.Record fs) = IsRow (names_at fs)
AtomHasRow atom.Null = Unit {0}
AtomHasRow atom.Bool = Unit {0}
AtomHasRow atom.Int = Unit {0}
AtomHasRow (atom.Array p) = Unit {0}
AtomHasRow atom.AnyRecord = Unit {0}

abbrev pub ConjunctHasRow : conjuncts.Conjunct ℕ → Type 0
ConjunctHasRow c = AtomHasRow c.positive × EachOf AtomHasRow c.negatives

abbrev pub NodeHasRow : Node → Type 0
NodeHasRow (node.Record fs) = IsRow (names_at fs)
NodeHasRow (node.Normal cs) = EachOf ConjunctHasRow cs
NodeHasRow node.Null = Unit {0}
NodeHasRow node.Bool = Unit {0}
NodeHasRow node.Int = Unit {0}
NodeHasRow node.Any = Unit {0}
NodeHasRow node.Void = Unit {0}
NodeHasRow (node.Array t) = Unit {0}
NodeHasRow (node.Union a b) = Unit {0}
NodeHasRow (node.Inter a b) = Unit {0}
NodeHasRow (node.Not a) = Unit {0}
NodeHasRow (node.Named n) = Unit {0}

abbrev pub HaveRow : List Node → Type 0
HaveRow ns = EachOf NodeHasRow ns

-- ---- from types into a table

put_row : (ns : List Node) (n : Node) → HaveRow ns → NodeHasRow n → HaveRow (put ns n).0
put_row ns n h r = by (list_any (same_node n) ns)
  where
    by : (b : Bool) → HaveRow (if b then ns else (ns ++ n ∷ []))
    by true = h
    by false = each_append NodeHasRow ns (n ∷ []) h (r, tt)

mutual
  pub ty_rows : (t : Ty) (ns : List Node) → HaveRow ns → HasRows t → HaveRow (put_ty ns t).0
  ty_rows NullTy ns h r = put_row ns node.Null h tt
  ty_rows BoolTy ns h r = put_row ns node.Bool h tt
  ty_rows IntTy ns h r = put_row ns node.Int h tt
  ty_rows AnyTy ns h r = put_row ns node.Any h tt
  ty_rows VoidTy ns h r = put_row ns node.Void h tt
  ty_rows (RecordTy fs) ns h r = put_row (put_fields ns fs).0 (node.Record (put_fields ns fs).1) (field_rows fs ns h r.1) (subst IsRow (sym (field_names fs ns)) r.0)
  ty_rows (ArrayTy t) ns h r = put_row (put_ty ns t).0 (node.Array (put_ty ns t).1) (ty_rows t ns h r) tt
  ty_rows (UnionTy a b) ns h r = put_row (put_ty (put_ty ns a).0 b).0 (node.Union (put_ty ns a).1 (put_ty (put_ty ns a).0 b).1) (ty_rows b (put_ty ns a).0 (ty_rows a ns h r.0) r.1) tt
  ty_rows (InterTy a b) ns h r = put_row (put_ty (put_ty ns a).0 b).0 (node.Inter (put_ty ns a).1 (put_ty (put_ty ns a).0 b).1) (ty_rows b (put_ty ns a).0 (ty_rows a ns h r.0) r.1) tt
  ty_rows (NotTy t) ns h r = put_row (put_ty ns t).0 (node.Not (put_ty ns t).1) (ty_rows t ns h r) tt
  ty_rows (NamedTy n) ns h r = put_row ns (node.Named n) h tt
  ty_rows (NormalTy cs) ns h r = let x = conjunct_rows cs ns h r in put_row (put_conjuncts ns cs).0 (node.Normal (put_conjuncts ns cs).1) x.0 x.1

  field_names : (fs : FieldTys) (ns : List Node) → names_at (put_fields ns fs).1 ≡ names_of_tys fs
  field_names NoFieldTys ns = refl
  field_names (MoreFieldTys name t rest) ns = ap (λ (r : List (List ℕ)). name ∷ r) (field_names rest (put_ty ns t).0)

  field_rows : (fs : FieldTys) (ns : List Node) → HaveRow ns → FieldsHaveRows fs → HaveRow (put_fields ns fs).0
  field_rows NoFieldTys ns h r = h
  field_rows (MoreFieldTys name t rest) ns h r = field_rows rest (put_ty ns t).0 (ty_rows t ns h r.0) r.1

  conjunct_rows : (cs : Conjuncts) (ns : List Node) → HaveRow ns → ConjunctsHaveRows cs → HaveRow (put_conjuncts ns cs).0 × EachOf ConjunctHasRow (put_conjuncts ns cs).1
  conjunct_rows NoConjuncts ns h r = (h, tt)
  conjunct_rows (MoreConjuncts p negatives rest) ns h r =
      let a = atom_rows p ns h r.0 in
      let b = atoms_rows negatives (put_atom ns p).0 a.0 r.1 in
      let c = conjunct_rows rest (put_atoms (put_atom ns p).0 negatives).0 b.0 r.2 in
      (c.0, ((a.1, b.1), c.1))

  atoms_rows : (as' : Atoms) (ns : List Node) → HaveRow ns → AtomsHaveRows as' → HaveRow (put_atoms ns as').0 × EachOf AtomHasRow (put_atoms ns as').1
  atoms_rows NoAtoms ns h r = (h, tt)
  atoms_rows (MoreAtoms a rest) ns h r =
      let x = atom_rows a ns h r.0 in
      let y = atoms_rows rest (put_atom ns a).0 x.0 r.1 in
      (y.0, (x.1, y.1))

  atom_rows : (a : Atom) (ns : List Node) → HaveRow ns → AtomHasRows a → HaveRow (put_atom ns a).0 × AtomHasRow (put_atom ns a).1
  atom_rows NullAtom ns h r = (h, tt)
  atom_rows BoolAtom ns h r = (h, tt)
  atom_rows IntAtom ns h r = (h, tt)
  atom_rows (ArrayAtom p) ns h r = (term_rows p ns h r, tt)
  atom_rows (RecordAtom ps) ns h r = (part_rows ps ns h r.1, subst IsRow (sym (part_names ps ns)) r.0)
  atom_rows AnyRecordAtom ns h r = (h, tt)

  part_names : (ps : FieldParts) (ns : List Node) → names_at (put_parts ns ps).1 ≡ names_of_parts ps
  part_names NoFieldParts ns = refl
  part_names (MoreFieldParts name p rest) ns = ap (λ (r : List (List ℕ)). name ∷ r) (part_names rest (put_terms ns p).0)

  part_rows : (ps : FieldParts) (ns : List Node) → HaveRow ns → PartsHaveRows ps → HaveRow (put_parts ns ps).0
  part_rows NoFieldParts ns h r = h
  part_rows (MoreFieldParts name p rest) ns h r = part_rows rest (put_terms ns p).0 (term_rows p ns h r.0) r.1

  term_rows : (p : Part) (ns : List Node) → HaveRow ns → TermsHaveRows p → HaveRow (put_terms ns p).0
  term_rows NoTerms ns h r = h
  term_rows (MoreTerms t up inside rest) ns h r = term_rows rest (put_ty ns t).0 (ty_rows t ns h r.0) r.1

declared_rows : (ds : List Declared) (ns : List Node) → HaveRow ns → NamesHaveRows ds → HaveRow (put_declared ns ds).0
declared_rows [] ns h r = h
declared_rows (d ∷ ds) ns h r = declared_rows ds (put_ty ns d.ty).0 (ty_rows d.ty ns h r.0) r.1

-- the table of a question
pub question_rows : (names : List Declared) (a b : Ty) → NamesHaveRows names → HasRows a → HasRows b → HaveRow (numbered names a b).table.nodes
unfolding numbered
question_rows names a b d r s =
    let ns = (put_declared [] names).0 in
    ty_rows b (put_ty ns a).0 (ty_rows a ns (declared_rows names [] tt d) r) s

node_row : (ns : List Node) (t : ℕ) → HaveRow ns → NodeHasRow (unwrap_or (slice_get ns t) node.Void)
node_row [] t h = tt
node_row (n ∷ ns) zero h = h.0
node_row (n ∷ ns) (suc t) h = node_row ns t h.1

-- ---- merges

with_atom_row : (xs : List (atoms.Atom ℕ)) (a : atoms.Atom ℕ) → EachOf AtomHasRow xs → AtomHasRow a → EachOf AtomHasRow (same.with_atom same_term xs a)
with_atom_row xs a h r = by (same.has_atom same_term xs a)
  where
    by : (b : Bool) → EachOf AtomHasRow (cond b xs (xs ++ a ∷ []))
    by true = h
    by false = each_append AtomHasRow xs (a ∷ []) h (r, tt)

united_atoms_row : (xs ys : List (atoms.Atom ℕ)) → EachOf AtomHasRow xs → EachOf AtomHasRow ys → EachOf AtomHasRow (same.united_atoms same_term xs ys)
united_atoms_row xs [] h g = h
united_atoms_row xs (y ∷ ys) h g = united_atoms_row (same.with_atom same_term xs y) ys (with_atom_row xs y h g.0) g.1

with_conjunct_row : (cs : List (conjuncts.Conjunct ℕ)) (c : conjuncts.Conjunct ℕ) → EachOf ConjunctHasRow cs → ConjunctHasRow c → EachOf ConjunctHasRow (same.with_conjunct same_term cs c)
with_conjunct_row cs c h r = by (same.has_conjunct same_term cs c)
  where
    by : (b : Bool) → EachOf ConjunctHasRow (cond b cs (cs ++ c ∷ []))
    by true = h
    by false = each_append ConjunctHasRow cs (c ∷ []) h (r, tt)

pub united_conjuncts_row : (cs ds : List (conjuncts.Conjunct ℕ)) → EachOf ConjunctHasRow cs → EachOf ConjunctHasRow ds → EachOf ConjunctHasRow (same.united_conjuncts same_term cs ds)
united_conjuncts_row cs [] h g = h
united_conjuncts_row cs (d ∷ ds) h g = united_conjuncts_row (same.with_conjunct same_term cs d) ds (with_conjunct_row cs d h g.0) g.1

united_names : (xs ys : List (List ℕ × parts.Part ℕ)) → merging.same_names xs ys ≡ true → names_at (merging.united_fields same_term xs ys) ≡ names_at xs
united_names [] ys e = refl
united_names (x ∷ xs) [] e = absurd cc
united_names (x ∷ xs) (y ∷ ys) e = ap (λ (r : List (List ℕ)). x.0 ∷ r) (united_names xs ys (both (bytes_eq x.0 y.0) (merging.same_names xs ys) e).1)

records_row : (xs ys : List (List ℕ × parts.Part ℕ)) (b : Bool) → merging.same_names xs ys ≡ b → IsRow (names_at xs) → EachOf AtomHasRow (cond b (atom.Record (merging.united_fields same_term xs ys) ∷ []) [])
records_row xs ys true e h = (subst IsRow (sym (united_names xs ys e)) h, tt)
records_row xs ys false e h = tt

meet_row : (a b : atoms.Atom ℕ) → AtomHasRow a → AtomHasRow b → EachOf AtomHasRow (merging.meet same_term a b)
meet_row atom.Null atom.Null h g = (tt, tt)
meet_row atom.Null atom.Bool h g = tt
meet_row atom.Null atom.Int h g = tt
meet_row atom.Null (atom.Array q) h g = tt
meet_row atom.Null (atom.Record ys) h g = tt
meet_row atom.Null atom.AnyRecord h g = tt
meet_row atom.Bool atom.Null h g = tt
meet_row atom.Bool atom.Bool h g = (tt, tt)
meet_row atom.Bool atom.Int h g = tt
meet_row atom.Bool (atom.Array q) h g = tt
meet_row atom.Bool (atom.Record ys) h g = tt
meet_row atom.Bool atom.AnyRecord h g = tt
meet_row atom.Int atom.Null h g = tt
meet_row atom.Int atom.Bool h g = tt
meet_row atom.Int atom.Int h g = (tt, tt)
meet_row atom.Int (atom.Array q) h g = tt
meet_row atom.Int (atom.Record ys) h g = tt
meet_row atom.Int atom.AnyRecord h g = tt
meet_row (atom.Array p) atom.Null h g = tt
meet_row (atom.Array p) atom.Bool h g = tt
meet_row (atom.Array p) atom.Int h g = tt
meet_row (atom.Array p) (atom.Array q) h g = (tt, tt)
meet_row (atom.Array p) (atom.Record ys) h g = tt
meet_row (atom.Array p) atom.AnyRecord h g = tt
meet_row (atom.Record xs) atom.Null h g = tt
meet_row (atom.Record xs) atom.Bool h g = tt
meet_row (atom.Record xs) atom.Int h g = tt
meet_row (atom.Record xs) (atom.Array q) h g = tt
meet_row (atom.Record xs) (atom.Record ys) h g = records_row xs ys (merging.same_names xs ys) refl h
meet_row (atom.Record xs) atom.AnyRecord h g = (h, tt)
meet_row atom.AnyRecord atom.Null h g = tt
meet_row atom.AnyRecord atom.Bool h g = tt
meet_row atom.AnyRecord atom.Int h g = tt
meet_row atom.AnyRecord (atom.Array q) h g = tt
meet_row atom.AnyRecord (atom.Record ys) h g = (g, tt)
meet_row atom.AnyRecord atom.AnyRecord h g = (tt, tt)

fitting_row : (fs : List (List ℕ × parts.Part ℕ)) (ns : List (atoms.Atom ℕ)) → EachOf AtomHasRow ns → EachOf AtomHasRow (merging.fitting fs ns)
fitting_row fs [] h = tt
fitting_row fs (a ∷ more) h = by (merging.fits_atom fs a) (fitting_row fs more h.1)
  where
    by : (b : Bool) → EachOf AtomHasRow (merging.fitting fs more) → EachOf AtomHasRow (cond b (a ∷ merging.fitting fs more) (merging.fitting fs more))
    by true r = (h.0, r)
    by false r = r

kept_row : (a : atoms.Atom ℕ) (ns : List (atoms.Atom ℕ)) → EachOf AtomHasRow ns → EachOf AtomHasRow (merging.kept a ns)
kept_row (atom.Record fs) ns h = fitting_row fs ns h
kept_row atom.Null ns h = h
kept_row atom.Bool ns h = h
kept_row atom.Int ns h = h
kept_row (atom.Array p) ns h = h
kept_row atom.AnyRecord ns h = h

with_atoms_row : (made : List (conjuncts.Conjunct ℕ)) (as' ns : List (atoms.Atom ℕ)) → EachOf ConjunctHasRow made → EachOf AtomHasRow as' → EachOf AtomHasRow ns → EachOf ConjunctHasRow (merging.with_atoms same_term made as' ns)
with_atoms_row made [] ns h g k = h
with_atoms_row made (a ∷ more) ns h g k =
    with_atoms_row (same.with_conjunct same_term made (record { positive = a; negatives = merging.kept a ns })) more ns
    (with_conjunct_row made (record { positive = a; negatives = merging.kept a ns }) h (g.0, kept_row a ns k)) g.1 k

with_pair_row : (made : List (conjuncts.Conjunct ℕ)) (x y : conjuncts.Conjunct ℕ) → EachOf ConjunctHasRow made → ConjunctHasRow x → ConjunctHasRow y → EachOf ConjunctHasRow (merging.with_pair same_term made x y)
with_pair_row made x y h g k =
    with_atoms_row made (merging.meet same_term x.positive y.positive) (same.united_atoms same_term x.negatives y.negatives) h (meet_row x.positive y.positive g.0 k.0) (united_atoms_row x.negatives y.negatives g.1 k.1)

with_pairs_row : (made : List (conjuncts.Conjunct ℕ)) (x : conjuncts.Conjunct ℕ) (ys : List (conjuncts.Conjunct ℕ)) → EachOf ConjunctHasRow made → ConjunctHasRow x → EachOf ConjunctHasRow ys → EachOf ConjunctHasRow (merging.with_pairs same_term made x ys)
with_pairs_row made x [] h g k = h
with_pairs_row made x (y ∷ ys) h g k = with_pairs_row (merging.with_pair same_term made x y) x ys (with_pair_row made x y h g k.0) g k.1

with_merge_row : (made xs ys : List (conjuncts.Conjunct ℕ)) → EachOf ConjunctHasRow made → EachOf ConjunctHasRow xs → EachOf ConjunctHasRow ys → EachOf ConjunctHasRow (merging.with_merge same_term made xs ys)
with_merge_row made [] ys h g k = h
with_merge_row made (x ∷ xs) ys h g k = with_merge_row (merging.with_pairs same_term made x ys) xs ys (with_pairs_row made x ys h g.0 k) g.1 k

merge_row : (xs ys : List (conjuncts.Conjunct ℕ)) → EachOf ConjunctHasRow xs → EachOf ConjunctHasRow ys → EachOf ConjunctHasRow (merging.merge same_term xs ys)
merge_row xs ys h g = with_merge_row [] xs ys tt h g

either_row : (b : Bool) (xs ys : List (conjuncts.Conjunct ℕ)) → EachOf ConjunctHasRow xs → EachOf ConjunctHasRow ys → EachOf ConjunctHasRow (merging.either same_term b xs ys)
either_row true xs ys h g = united_conjuncts_row xs ys h g
either_row false xs ys h g = merge_row xs ys h g

kinds_row : EachOf ConjunctHasRow merging.kinds
kinds_row = ((tt, tt), ((tt, tt), ((tt, tt), ((tt, tt), ((tt, tt), tt)))))

taken_out_row : (a : atoms.Atom ℕ) → AtomHasRow a → EachOf ConjunctHasRow (merging.taken_out a)
taken_out_row atom.Null h = ((tt, tt), ((tt, tt), ((tt, tt), ((tt, tt), tt))))
taken_out_row atom.Bool h = ((tt, tt), ((tt, tt), ((tt, tt), ((tt, tt), tt))))
taken_out_row atom.Int h = ((tt, tt), ((tt, tt), ((tt, tt), ((tt, tt), tt))))
taken_out_row (atom.Array p) h = ((tt, tt), ((tt, tt), ((tt, tt), ((tt, (tt, tt)), ((tt, tt), tt)))))
taken_out_row (atom.Record fs) h = ((tt, tt), ((tt, tt), ((tt, tt), ((tt, tt), ((tt, (h, tt)), tt)))))
taken_out_row atom.AnyRecord h = ((tt, tt), ((tt, tt), ((tt, tt), ((tt, tt), tt))))

atom_or_out_row : (b : Bool) (a : atoms.Atom ℕ) → AtomHasRow a → EachOf ConjunctHasRow (merging.atom_or_out b a)
atom_or_out_row true a h = ((h, tt), tt)
atom_or_out_row false a h = taken_out_row a h

nothing_or_all_row : (b : Bool) → EachOf ConjunctHasRow (merging.nothing_or_all b)
nothing_or_all_row true = tt
nothing_or_all_row false = kinds_row

all_or_nothing_row : (b : Bool) → EachOf ConjunctHasRow (merging.all_or_nothing b)
all_or_nothing_row true = kinds_row
all_or_nothing_row false = tt

with_plains_row : (made : List (conjuncts.Conjunct ℕ)) (as' : List (atoms.Atom ℕ)) → EachOf ConjunctHasRow made → EachOf AtomHasRow as' → EachOf ConjunctHasRow (merging.with_plains same_term made as')
with_plains_row made [] h g = h
with_plains_row made (a ∷ more) h g = with_plains_row (same.with_conjunct same_term made (merging.plain a)) more (with_conjunct_row made (merging.plain a) h (g.0, tt)) g.1

conjunct_out_row : (c : conjuncts.Conjunct ℕ) → ConjunctHasRow c → EachOf ConjunctHasRow (merging.conjunct_out same_term c)
conjunct_out_row c h = with_plains_row (merging.taken_out c.positive) c.negatives (taken_out_row c.positive h.0) h.1

merge_outs_row : (made cs : List (conjuncts.Conjunct ℕ)) → EachOf ConjunctHasRow made → EachOf ConjunctHasRow cs → EachOf ConjunctHasRow (merging.merge_outs same_term made cs)
merge_outs_row made [] h g = h
merge_outs_row made (c ∷ cs) h g = merge_outs_row (merging.merge same_term made (merging.conjunct_out same_term c)) cs (merge_row made (merging.conjunct_out same_term c) h (conjunct_out_row c g.0)) g.1

normal_or_out_row : (b : Bool) (cs : List (conjuncts.Conjunct ℕ)) → EachOf ConjunctHasRow cs → EachOf ConjunctHasRow (merging.normal_or_out same_term b cs)
normal_or_out_row true cs h = united_conjuncts_row [] cs tt h
normal_or_out_row false [] h = kinds_row
normal_or_out_row false (c ∷ cs) h = merge_outs_row (merging.conjunct_out same_term c) cs (conjunct_out_row c h.0) h.1

-- ---- conjuncts of a table

module _ (table : Table) (have : HaveRow table.nodes) where
  parts_names : (k : ℕ) (up : Bool) (fs : List (List ℕ × ℕ)) → names_at (parts_of table k up fs) ≡ names_at fs
  parts_names k up [] = refl
  parts_names k up (f ∷ fs) = ap (λ (r : List (List ℕ)). f.0 ∷ r) (parts_names k up fs)

  named_row : (at : Bool → Bool → ℕ → List (conjuncts.Conjunct ℕ)) → ((up inside : Bool) (t : ℕ) → EachOf ConjunctHasRow (at up inside t)) → (up inside : Bool) (o : Option Definition) → EachOf ConjunctHasRow (named_dnf at up inside o)
  named_row at each up inside None = nothing_or_all_row inside
  named_row at each up inside (Some d) = by (up || not d.constrained)
    where
      by : (b : Bool) → EachOf ConjunctHasRow (cond b (at up inside d.term) (merging.nothing_or_all inside))
      by true = each up inside d.term
      by false = nothing_or_all_row inside

  node_dnf_row : (sides : ℕ) (at : Bool → Bool → ℕ → List (conjuncts.Conjunct ℕ)) → ((up inside : Bool) (t : ℕ) → EachOf ConjunctHasRow (at up inside t)) → (up inside : Bool) (n : Node) → NodeHasRow n → EachOf ConjunctHasRow (node_dnf table sides at up inside n)
  node_dnf_row sides at each up inside node.Null h = atom_or_out_row inside atom.Null tt
  node_dnf_row sides at each up inside node.Bool h = atom_or_out_row inside atom.Bool tt
  node_dnf_row sides at each up inside node.Int h = atom_or_out_row inside atom.Int tt
  node_dnf_row sides at each up inside node.Any h = all_or_nothing_row inside
  node_dnf_row sides at each up inside node.Void h = nothing_or_all_row inside
  node_dnf_row sides at each up inside (node.Record fs) h = atom_or_out_row inside (atom.Record (parts_of table sides up fs)) (subst IsRow (sym (parts_names sides up fs)) h)
  node_dnf_row sides at each up inside (node.Array t) h = atom_or_out_row inside (atom.Array (merging.part (with_sides table sides [] up true t))) tt
  node_dnf_row sides at each up inside (node.Union a b) h = either_row inside (at up inside a) (at up inside b) (each up inside a) (each up inside b)
  node_dnf_row sides at each up inside (node.Inter a b) h = either_row (not inside) (at up inside a) (at up inside b) (each up inside a) (each up inside b)
  node_dnf_row sides at each up inside (node.Not a) h = each (not up) (not inside) a
  node_dnf_row sides at each up inside (node.Named n) h = named_row at each up inside (definition_of table n)
  node_dnf_row sides at each up inside (node.Normal cs) h = normal_or_out_row inside cs h

  dnf_row : (sides k : ℕ) (up inside : Bool) (t : ℕ) → EachOf ConjunctHasRow (dnf table sides k up inside t)
  dnf_row sides zero up inside t = nothing_or_all_row inside
  dnf_row sides (suc k) up inside t = node_dnf_row sides (dnf table sides k) (dnf_row sides k) up inside (node_of table t) (node_row table.nodes t have)

  dnf_more_row : (k : ℕ) (cs : List (conjuncts.Conjunct ℕ)) (ss : List (signed.Signed ℕ)) → EachOf ConjunctHasRow cs → EachOf ConjunctHasRow (dnf_more table k cs ss)
  dnf_more_row k cs [] h = h
  dnf_more_row k cs (s ∷ ss) h = dnf_more_row k (merging.merge same_term cs (dnf table k k s.up s.inside s.term)) ss (merge_row cs (dnf table k k s.up s.inside s.term) h (dnf_row k k s.up s.inside s.term))

  pub part_row : (k : ℕ) (p : List (signed.Signed ℕ)) → EachOf ConjunctHasRow (dnf_part table k p)
  part_row k [] = kinds_row
  part_row k (s ∷ ss) = dnf_more_row k (dnf table k k s.up s.inside s.term) ss (dnf_row k k s.up s.inside s.term)

-- ---- from a table back into types

module _ (at : ℕ → Ty) (each : (t : ℕ) → HasRows (at t)) where
  terms_back : (ss : List (signed.Signed ℕ)) → TermsHaveRows (part_at at ss)
  terms_back [] = tt
  terms_back (s ∷ ss) = (each s.term, terms_back ss)

  part_names_back : (fs : List (List ℕ × parts.Part ℕ)) → names_of_parts (field_parts_at at fs) ≡ names_at fs
  part_names_back [] = refl
  part_names_back (f ∷ fs) = ap (λ (r : List (List ℕ)). f.0 ∷ r) (part_names_back fs)

  parts_back : (fs : List (List ℕ × parts.Part ℕ)) → PartsHaveRows (field_parts_at at fs)
  parts_back [] = tt
  parts_back (f ∷ fs) = (terms_back f.1.terms, parts_back fs)

  atom_back : (a : atoms.Atom ℕ) → AtomHasRow a → AtomHasRows (atom_at at a)
  atom_back atom.Null h = tt
  atom_back atom.Bool h = tt
  atom_back atom.Int h = tt
  atom_back (atom.Array p) h = terms_back p.terms
  atom_back (atom.Record fs) h = (subst IsRow (sym (part_names_back fs)) h, parts_back fs)
  atom_back atom.AnyRecord h = tt

  atoms_back : (xs : List (atoms.Atom ℕ)) → EachOf AtomHasRow xs → AtomsHaveRows (atoms_at at xs)
  atoms_back [] h = tt
  atoms_back (a ∷ more) h = (atom_back a h.0, atoms_back more h.1)

  pub conjuncts_back : (cs : List (conjuncts.Conjunct ℕ)) → EachOf ConjunctHasRow cs → ConjunctsHaveRows (conjuncts_at at cs)
  conjuncts_back [] h = tt
  conjuncts_back (c ∷ cs) h = (atom_back c.positive h.0.0, atoms_back c.negatives h.0.1, conjuncts_back cs h.1)

  field_names_back : (fs : List (List ℕ × ℕ)) → names_of_tys (field_tys_at at fs) ≡ names_at fs
  field_names_back [] = refl
  field_names_back (f ∷ fs) = ap (λ (r : List (List ℕ)). f.0 ∷ r) (field_names_back fs)

  fields_back : (fs : List (List ℕ × ℕ)) → FieldsHaveRows (field_tys_at at fs)
  fields_back [] = tt
  fields_back (f ∷ fs) = (each f.1, fields_back fs)

  node_back : (n : Node) → NodeHasRow n → HasRows (node_ty at n)
  node_back node.Null h = tt
  node_back node.Bool h = tt
  node_back node.Int h = tt
  node_back node.Any h = tt
  node_back node.Void h = tt
  node_back (node.Record fs) h = (subst IsRow (sym (field_names_back fs)) h, fields_back fs)
  node_back (node.Array t) h = each t
  node_back (node.Union a b) h = (each a, each b)
  node_back (node.Inter a b) h = (each a, each b)
  node_back (node.Not a) h = each a
  node_back (node.Named n) h = tt
  node_back (node.Normal cs) h = conjuncts_back cs h

pub ty_back : (table : Table) → HaveRow table.nodes → (k t : ℕ) → HasRows (ty_at table k t)
ty_back table have zero t = tt
ty_back table have (suc k) t = node_back (ty_at table k) (ty_back table have k) (node_of table t) (node_row table.nodes t have)
