-- Which type a number stands for in a list of nodes.
use Rattle.std.specs.Prelude.{◌≡◌, ℕ, List, [], ◌∷◌, Option, Some, None, slice_get}
use Rattle.wy_core.specs.Types.{Ty, FieldTys, Conjuncts, Atoms, Atom, FieldParts, Part, NullTy, BoolTy, IntTy, AnyTy, VoidTy, RecordTy, ArrayTy, UnionTy, InterTy, NotTy, NamedTy, NormalTy, NoFieldTys, MoreFieldTys, NoConjuncts, MoreConjuncts, NoAtoms, MoreAtoms, NullAtom, BoolAtom, IntAtom, ArrayAtom, RecordAtom, AnyRecordAtom, NoFieldParts, MoreFieldParts, NoTerms, MoreTerms}
use Rattle.wy_types.specs.declared.conjuncts.Signed as signed
use Rattle.wy_types.specs.declared.conjuncts.Part as parts
use Rattle.wy_types.specs.declared.conjuncts.Atom as atoms
use Rattle.wy_types.specs.declared.conjuncts.Atom.TheVariants as atom
use Rattle.wy_types.specs.declared.conjuncts.Conjunct as conjuncts
use Rattle.wy_types.specs.declared.table.Node.{Node}
use Rattle.wy_types.specs.declared.table.Node.TheVariants as node
use Rattle.wy_types.specs.declared.table.Definition.{Definition}
use Rattle.wy_types.specs.Names.{Declared}
use Rattle.wy_types.specs.Nodes.{AreOnce, AreGrounded, Keeps}

abbrev mutual
  -- the number stands for the type
  pub Stands : List Node → Ty → ℕ → Type 0
  Stands ns NullTy n = slice_get ns n ≡ Some node.Null
  Stands ns BoolTy n = slice_get ns n ≡ Some node.Bool
  Stands ns IntTy n = slice_get ns n ≡ Some node.Int
  Stands ns AnyTy n = slice_get ns n ≡ Some node.Any
  Stands ns VoidTy n = slice_get ns n ≡ Some node.Void
  Stands ns (RecordTy fs) n = (xs : List (List ℕ × ℕ)) × ((slice_get ns n ≡ Some (node.Record xs)) × FieldsStand ns fs xs)
  Stands ns (ArrayTy t) n = (x : ℕ) × ((slice_get ns n ≡ Some (node.Array x)) × Stands ns t x)
  Stands ns (UnionTy a b) n = (x : ℕ) × ((y : ℕ) × ((slice_get ns n ≡ Some (node.Union x y)) × (Stands ns a x × Stands ns b y)))
  Stands ns (InterTy a b) n = (x : ℕ) × ((y : ℕ) × ((slice_get ns n ≡ Some (node.Inter x y)) × (Stands ns a x × Stands ns b y)))
  Stands ns (NotTy a) n = (x : ℕ) × ((slice_get ns n ≡ Some (node.Not x)) × Stands ns a x)
  Stands ns (NamedTy m) n = slice_get ns n ≡ Some (node.Named m)
  Stands ns (NormalTy cs) n = (xs : List (conjuncts.Conjunct ℕ)) × ((slice_get ns n ≡ Some (node.Normal xs)) × ConjunctsStand ns cs xs)

  -- so for the fields of a record
  pub FieldsStand : List Node → FieldTys → List (List ℕ × ℕ) → Type 0
  FieldsStand ns NoFieldTys [] = Unit {0}
  FieldsStand ns (MoreFieldTys name t rest) (x ∷ xs) = (x.0 ≡ name) × (Stands ns t x.1 × FieldsStand ns rest xs)
  FieldsStand ns NoFieldTys (x ∷ xs) = ⊥
  FieldsStand ns (MoreFieldTys name t rest) [] = ⊥

  -- so for conjuncts
  pub ConjunctsStand : List Node → Conjuncts → List (conjuncts.Conjunct ℕ) → Type 0
  ConjunctsStand ns NoConjuncts [] = Unit {0}
  ConjunctsStand ns (MoreConjuncts p negatives rest) (x ∷ xs) = AtomStands ns p x.positive × (AtomsStand ns negatives x.negatives × ConjunctsStand ns rest xs)
  ConjunctsStand ns NoConjuncts (x ∷ xs) = ⊥
  ConjunctsStand ns (MoreConjuncts p negatives rest) [] = ⊥

  -- so for atoms
  pub AtomsStand : List Node → Atoms → List (atoms.Atom ℕ) → Type 0
  AtomsStand ns NoAtoms [] = Unit {0}
  AtomsStand ns (MoreAtoms a rest) (x ∷ xs) = AtomStands ns a x × AtomsStand ns rest xs
  AtomsStand ns NoAtoms (x ∷ xs) = ⊥
  AtomsStand ns (MoreAtoms a rest) [] = ⊥

  -- so for an atom
  pub AtomStands : List Node → Atom → atoms.Atom ℕ → Type 0
  AtomStands ns NullAtom atom.Null = Unit {0}
  AtomStands ns BoolAtom atom.Bool = Unit {0}
  AtomStands ns IntAtom atom.Int = Unit {0}
  AtomStands ns (ArrayAtom p) (atom.Array x) = TermsStand ns p x.terms
  AtomStands ns (RecordAtom ps) (atom.Record xs) = PartsStand ns ps xs
  AtomStands ns AnyRecordAtom atom.AnyRecord = Unit {0}
  AtomStands ns _ _ = ⊥

  -- so for the parts of a record
  pub PartsStand : List Node → FieldParts → List (List ℕ × parts.Part ℕ) → Type 0
  PartsStand ns NoFieldParts [] = Unit {0}
  PartsStand ns (MoreFieldParts name p rest) (x ∷ xs) = (x.0 ≡ name) × (TermsStand ns p x.1.terms × PartsStand ns rest xs)
  PartsStand ns NoFieldParts (x ∷ xs) = ⊥
  PartsStand ns (MoreFieldParts name p rest) [] = ⊥

  -- so for the terms of a part
  pub TermsStand : List Node → Part → List (signed.Signed ℕ) → Type 0
  TermsStand ns NoTerms [] = Unit {0}
  TermsStand ns (MoreTerms t up inside rest) (x ∷ xs) = Stands ns t x.term × ((x.up ≡ up) × ((x.inside ≡ inside) × TermsStand ns rest xs))
  TermsStand ns NoTerms (x ∷ xs) = ⊥
  TermsStand ns (MoreTerms t up inside rest) [] = ⊥

-- what a name stands for
abbrev pub NameStands : List Node → Option Declared → Option Definition → Type 0
NameStands ns None None = Unit {0}
NameStands ns (Some d) (Some x) = (x.constrained ≡ d.constrained) × Stands ns d.ty x.term
NameStands ns None (Some x) = ⊥
NameStands ns (Some d) None = ⊥

-- so for each declared type
abbrev pub NamesStand : List Node → List Declared → List Definition → Type 0
NamesStand ns ds xs = (n : ℕ) → NameStands ns (slice_get ds n) (slice_get xs n)

-- what is known of nodes to which others came
pub record Grows (old new : List Node) : Type 0 where
  pub keeps : Keeps old new
  pub once : AreOnce old → AreOnce new
  pub grounded : AreGrounded old → AreGrounded new
