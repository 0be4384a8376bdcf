-- The type for which a number in a table stands.
use Rattle.std.specs.Prelude.{ℕ, zero, suc, List, map}
use Rattle.wy_core.specs.Types.{Ty, FieldTys, Conjuncts, Atoms, Atom, FieldParts, Part, NullTy, BoolTy, IntTy, AnyTy, VoidTy, RecordTy, ArrayTy, UnionTy, InterTy, NotTy, NamedTy, NormalTy, NullAtom, BoolAtom, IntAtom, ArrayAtom, RecordAtom, AnyRecordAtom}
use Rattle.wy_core.specs.CoreSeen.{SeenConjunct, part_of, field_parts_of, atoms_of, conjuncts_of, field_tys_of}
use Rattle.wy_types.specs.declared.conjuncts.Signed as signed
use Rattle.wy_types.specs.declared.conjuncts.Part as parts
use Rattle.wy_types.specs.declared.conjuncts.Atom as atoms
use Rattle.wy_types.specs.declared.conjuncts.Atom.TheVariants as atom
use Rattle.wy_types.specs.declared.conjuncts.Conjunct as conjuncts
use Rattle.wy_types.specs.declared.table.Node.{Node}
use Rattle.wy_types.specs.declared.table.Node.TheVariants as node
use Rattle.wy_types.specs.declared.table.Table.{Table}
use Rattle.wy_types.specs.Membership.{node_of}

-- ---- by the types of the numbers in it

abbrev pub part_at : (ℕ → Ty) → List (signed.Signed ℕ) → Part
part_at at ss = part_of (map (λ s. (at s.term, s.up, s.inside)) ss)

abbrev pub field_parts_at : (ℕ → Ty) → List (List ℕ × parts.Part ℕ) → FieldParts
field_parts_at at fs = field_parts_of (map (λ f. (f.0, part_at at f.1.terms)) fs)

abbrev pub atom_at : (ℕ → Ty) → atoms.Atom ℕ → Atom
atom_at at atom.Null = NullAtom
atom_at at atom.Bool = BoolAtom
atom_at at atom.Int = IntAtom
atom_at at (atom.Array p) = ArrayAtom (part_at at p.terms)
atom_at at (atom.Record fs) = RecordAtom (field_parts_at at fs)
atom_at at atom.AnyRecord = AnyRecordAtom

abbrev pub atoms_at : (ℕ → Ty) → List (atoms.Atom ℕ) → Atoms
atoms_at at xs = atoms_of (map (atom_at at) xs)

abbrev pub conjunct_at : (ℕ → Ty) → conjuncts.Conjunct ℕ → SeenConjunct
conjunct_at at c = (atom_at at c.positive, atoms_at at c.negatives)

abbrev pub conjuncts_at : (ℕ → Ty) → List (conjuncts.Conjunct ℕ) → Conjuncts
conjuncts_at at cs = conjuncts_of (map (conjunct_at at) cs)

abbrev pub field_tys_at : (ℕ → Ty) → List (List ℕ × ℕ) → FieldTys
field_tys_at at fs = field_tys_of (map (λ f. (f.0, at f.1)) fs)

abbrev pub node_ty : (ℕ → Ty) → Node → Ty
node_ty at node.Null = NullTy
node_ty at node.Bool = BoolTy
node_ty at node.Int = IntTy
node_ty at node.Any = AnyTy
node_ty at node.Void = VoidTy
node_ty at (node.Record fs) = RecordTy (field_tys_at at fs)
node_ty at (node.Array t) = ArrayTy (at t)
node_ty at (node.Union a b) = UnionTy (at a) (at b)
node_ty at (node.Inter a b) = InterTy (at a) (at b)
node_ty at (node.Not a) = NotTy (at a)
node_ty at (node.Named n) = NamedTy n
node_ty at (node.Normal cs) = NormalTy (conjuncts_at at cs)

-- ---- of a number, no deeper than the other number

abbrev pub ty_at : Table → ℕ → ℕ → Ty
ty_at table zero t = VoidTy
ty_at table (suc k) t = node_ty (ty_at table k) (node_of table t)
