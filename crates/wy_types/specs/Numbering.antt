-- The number that each term of a type has, where equal terms have one.
use Rattle.std.specs.Prelude.{ℕ, List, [], ◌∷◌, Bool}
use Rattle.wy_core.specs.Types.{Ty, FieldTys, Conjuncts, Atoms, Atom, FieldParts, Part, NullTy, BoolTy, IntTy, AnyTy, VoidTy, RecordTy, ArrayTy, UnionTy, InterTy, NotTy, NamedTy, NormalTy, NoFieldTys, MoreFieldTys, NoConjuncts, MoreConjuncts, NoAtoms, MoreAtoms, NullAtom, BoolAtom, IntAtom, ArrayAtom, RecordAtom, AnyRecordAtom, NoFieldParts, MoreFieldParts, NoTerms, MoreTerms}
use Rattle.wy_types.specs.declared.conjuncts.Signed as signed
use Rattle.wy_types.specs.declared.conjuncts.Part as parts
use Rattle.wy_types.specs.declared.conjuncts.Atom as atoms
use Rattle.wy_types.specs.declared.conjuncts.Atom.TheVariants as atom
use Rattle.wy_types.specs.declared.conjuncts.Conjunct as conjuncts
use Rattle.wy_types.specs.declared.table.Node.{Node}
use Rattle.wy_types.specs.declared.table.Node.TheVariants as node
use Rattle.wy_types.specs.declared.table.Definition.{Definition}
use Rattle.wy_types.specs.Names.{Declared}
use Rattle.wy_types.specs.Nodes.{with_node, place_of}

-- the node and its number
abbrev pub put : List Node → Node → List Node × ℕ
put ns n = (with_node ns n, place_of ns n)

abbrev pub put_record : (List Node × List (List ℕ × ℕ)) → List Node × ℕ
put_record x = put x.0 (node.Record x.1)

abbrev pub put_array : (List Node × ℕ) → List Node × ℕ
put_array x = put x.0 (node.Array x.1)

abbrev pub put_not : (List Node × ℕ) → List Node × ℕ
put_not x = put x.0 (node.Not x.1)

abbrev pub put_union : ℕ → (List Node × ℕ) → List Node × ℕ
put_union a y = put y.0 (node.Union a y.1)

abbrev pub put_inter : ℕ → (List Node × ℕ) → List Node × ℕ
put_inter a y = put y.0 (node.Inter a y.1)

abbrev pub put_normal : (List Node × List (conjuncts.Conjunct ℕ)) → List Node × ℕ
put_normal x = put x.0 (node.Normal x.1)

abbrev pub more_fields : List ℕ → ℕ → (List Node × List (List ℕ × ℕ)) → List Node × List (List ℕ × ℕ)
more_fields name t y = (y.0, (name, t) ∷ y.1)

abbrev pub more_conjuncts : atoms.Atom ℕ → List (atoms.Atom ℕ) → (List Node × List (conjuncts.Conjunct ℕ)) → List Node × List (conjuncts.Conjunct ℕ)
more_conjuncts p negatives y = (y.0, record { positive = p; negatives = negatives } ∷ y.1)

abbrev pub more_atoms : atoms.Atom ℕ → (List Node × List (atoms.Atom ℕ)) → List Node × List (atoms.Atom ℕ)
more_atoms a y = (y.0, a ∷ y.1)

abbrev pub array_atom : (List Node × List (signed.Signed ℕ)) → List Node × atoms.Atom ℕ
array_atom x = (x.0, atom.Array (record { terms = x.1 }))

abbrev pub record_atom : (List Node × List (List ℕ × parts.Part ℕ)) → List Node × atoms.Atom ℕ
record_atom x = (x.0, atom.Record x.1)

abbrev pub more_parts : List ℕ → List (signed.Signed ℕ) → (List Node × List (List ℕ × parts.Part ℕ)) → List Node × List (List ℕ × parts.Part ℕ)
more_parts name ts y = (y.0, (name, record { terms = ts }) ∷ y.1)

abbrev pub more_terms : signed.Signed ℕ → (List Node × List (signed.Signed ℕ)) → List Node × List (signed.Signed ℕ)
more_terms s y = (y.0, s ∷ y.1)

abbrev mutual
  -- the nodes with those of the type, and its number
  pub put_ty : List Node → Ty → List Node × ℕ
  put_ty ns NullTy = put ns node.Null
  put_ty ns BoolTy = put ns node.Bool
  put_ty ns IntTy = put ns node.Int
  put_ty ns AnyTy = put ns node.Any
  put_ty ns VoidTy = put ns node.Void
  put_ty ns (RecordTy fs) = put_record (put_fields ns fs)
  put_ty ns (ArrayTy t) = put_array (put_ty ns t)
  put_ty ns (UnionTy a b) = put_union (put_ty ns a).1 (put_ty (put_ty ns a).0 b)
  put_ty ns (InterTy a b) = put_inter (put_ty ns a).1 (put_ty (put_ty ns a).0 b)
  put_ty ns (NotTy a) = put_not (put_ty ns a)
  put_ty ns (NamedTy n) = put ns (node.Named n)
  put_ty ns (NormalTy cs) = put_normal (put_conjuncts ns cs)

  pub put_fields : List Node → FieldTys → List Node × List (List ℕ × ℕ)
  put_fields ns NoFieldTys = (ns, [])
  put_fields ns (MoreFieldTys name t rest) = more_fields name (put_ty ns t).1 (put_fields (put_ty ns t).0 rest)

  pub put_conjuncts : List Node → Conjuncts → List Node × List (conjuncts.Conjunct ℕ)
  put_conjuncts ns NoConjuncts = (ns, [])
  put_conjuncts ns (MoreConjuncts p negatives rest) =
      more_conjuncts (put_atom ns p).1 (put_atoms (put_atom ns p).0 negatives).1 (put_conjuncts (put_atoms (put_atom ns p).0 negatives).0 rest)

  pub put_atoms : List Node → Atoms → List Node × List (atoms.Atom ℕ)
  put_atoms ns NoAtoms = (ns, [])
  put_atoms ns (MoreAtoms a rest) = more_atoms (put_atom ns a).1 (put_atoms (put_atom ns a).0 rest)

  pub put_atom : List Node → Atom → List Node × atoms.Atom ℕ
  put_atom ns NullAtom = (ns, atom.Null)
  put_atom ns BoolAtom = (ns, atom.Bool)
  put_atom ns IntAtom = (ns, atom.Int)
  put_atom ns (ArrayAtom p) = array_atom (put_terms ns p)
  put_atom ns (RecordAtom ps) = record_atom (put_parts ns ps)
  put_atom ns AnyRecordAtom = (ns, atom.AnyRecord)

  pub put_parts : List Node → FieldParts → List Node × List (List ℕ × parts.Part ℕ)
  put_parts ns NoFieldParts = (ns, [])
  put_parts ns (MoreFieldParts name p rest) = more_parts name (put_terms ns p).1 (put_parts (put_terms ns p).0 rest)

  pub put_terms : List Node → Part → List Node × List (signed.Signed ℕ)
  put_terms ns NoTerms = (ns, [])
  put_terms ns (MoreTerms t up inside rest) = more_terms (record { term = (put_ty ns t).1; up = up; inside = inside }) (put_terms (put_ty ns t).0 rest)

-- a declared type, before others
abbrev pub more_declared : ℕ → Bool → (List Node × List Definition) → List Node × List Definition
more_declared t constrained y = (y.0, record { term = t; constrained = constrained } ∷ y.1)

-- the nodes with those of the declared types, and the numbers of these
abbrev pub put_declared : List Node → List Declared → List Node × List Definition
put_declared ns [] = (ns, [])
put_declared ns (d ∷ ds) = more_declared (put_ty ns d.ty).1 d.constrained (put_declared (put_ty ns d.ty).0 ds)
