-- What types, values and their lists stand for, a node at a time, and how large their parts are.
use Rattle.std.proofs.Common.{◌≡◌, ◌<◌, ◌≤◌, ◌∙◌, ℕ, zero, suc, ◌+◌, List, [], ◌∷◌, Some, length, get_or, map, ap, sym, arith, rules}
use Rattle.std.specs.Prelude.{slice_get}
use Rattle.wy_value.specs.declared.value.Value.{Value}
use Rattle.wy_value.specs.Seen.{seen, seen_fields, seen_items}
use Rattle.wy_core.specs.Types as ty
use Rattle.wy_core.specs.CoreSeen.{atoms_of, conjuncts_of, field_parts_of, field_tys_of, part_of, seen_atom, seen_conjunct, seen_part, seen_ty}
use Rattle.wy_core.specs.declared.types.Ty.{Ty, the_lemmas}
use Rattle.wy_core.specs.declared.types.TyKind as kind
use Rattle.wy_core.specs.declared.types.Atom as atom
use Rattle.wy_core.specs.declared.types.Part.{Part, out-Part}
use Rattle.wy_core.specs.declared.types.Conjunct.{Conjunct}
use Rattle.wy_core.specs.declared.types.Signed.{Signed}
use Rattle.wy_types.specs.Names.{seen_declared}
use Rattle.wy_types.specs.declared.names.Declared.{Declared}
use Rattle.wy_types_member.specs.Parts.{seen_field, seen_field_part, seen_signed}
use Rattle.wy_types_member.proofs.RankLemmas.{atom_size, atoms_size, conjunct_size, conjuncts_size, data_size, datum_size, fields_size, names_size, part_size, parts_size, ty_size, tys_size}

-- ---- nodes

pub seen_array_ty : (t item : Ty) → t.kind ≡ kind.Array item → seen_ty t ≡ ty.ArrayTy (seen_ty item)
seen_array_ty t item e = search (rules, the_lemmas)

pub seen_record_ty : (t : Ty) (fields : List (List ℕ × Ty)) → t.kind ≡ kind.Record fields → seen_ty t ≡ ty.RecordTy (field_tys_of (map seen_field fields))
seen_record_ty t fields e = search (rules, the_lemmas)

pub seen_named_ty : (t : Ty) (n : ℕ) → t.kind ≡ kind.Named n → seen_ty t ≡ ty.NamedTy n
seen_named_ty t n e = search (rules, the_lemmas)

pub seen_array_atom : (a : atom.Atom) (part : Part) → a ≡ atom.Array part → seen_atom a ≡ ty.ArrayAtom (seen_part part)
seen_array_atom a part e = search (rules, the_lemmas)

pub seen_record_atom : (a : atom.Atom) (parts : List (List ℕ × Part)) → a ≡ atom.Record parts → seen_atom a ≡ ty.RecordAtom (field_parts_of (map seen_field_part parts))
seen_record_atom a parts e = search (rules, the_lemmas)

pub seen_terms : (p : Part) (terms : List Signed) → (out-Part p).terms ≡ terms → seen_part p ≡ part_of (map seen_signed terms)
seen_terms p terms e = search (rules, the_lemmas)

pub seen_negatives : (c : Conjunct) (negatives : List atom.Atom) → c.negatives ≡ negatives → seen_conjunct c ≡ (seen_atom c.positive, atoms_of (map seen_atom negatives))
seen_negatives c negatives e = search (rules, the_lemmas)

-- ---- what stands in a list is smaller than it

pub item_less : (vs : List Value) (i : ℕ) (v : Value) → i < length vs → v ≡ get_or vs i v → datum_size (seen v) < data_size (seen_items vs)
item_less [] i v within is = absurd (omega arith)
item_less (x ∷ vs) zero v within is = let e : datum_size (seen v) ≡ datum_size (seen x) = ap (λ (w : Value). datum_size (seen w)) is in omega arith
item_less (x ∷ vs) (suc i) v within is = let h : datum_size (seen v) < data_size (seen_items vs) = item_less vs i v (omega arith) is in omega arith

pub field_less : (fs : List (List ℕ × Value)) (i : ℕ) (f : List ℕ × Value) → i < length fs → f ≡ get_or fs i f → datum_size (seen f.1) < fields_size (seen_fields fs)
field_less [] i f within is = absurd (omega arith)
field_less (x ∷ fs) zero f within is = let e : datum_size (seen f.1) ≡ datum_size (seen x.1) = ap (λ (w : List ℕ × Value). datum_size (seen w.1)) is in omega arith
field_less (x ∷ fs) (suc i) f within is = let h : datum_size (seen f.1) < fields_size (seen_fields fs) = field_less fs i f (omega arith) is in omega arith

pub field_ty_less : (fs : List (List ℕ × Ty)) (i : ℕ) (f : List ℕ × Ty) → i < length fs → f ≡ get_or fs i f → ty_size (seen_ty f.1) < tys_size (field_tys_of (map seen_field fs))
field_ty_less [] i f within is = absurd (omega arith)
field_ty_less (x ∷ fs) zero f within is = let e : ty_size (seen_ty f.1) ≡ ty_size (seen_ty x.1) = ap (λ (w : List ℕ × Ty). ty_size (seen_ty w.1)) is in omega arith
field_ty_less (x ∷ fs) (suc i) f within is = let h : ty_size (seen_ty f.1) < tys_size (field_tys_of (map seen_field fs)) = field_ty_less fs i f (omega arith) is in omega arith

pub field_part_less : (fs : List (List ℕ × Part)) (i : ℕ) (f : List ℕ × Part) → i < length fs → f ≡ get_or fs i f → part_size (seen_part f.1) < parts_size (field_parts_of (map seen_field_part fs))
field_part_less [] i f within is = absurd (omega arith)
field_part_less (x ∷ fs) zero f within is = let e : part_size (seen_part f.1) ≡ part_size (seen_part x.1) = ap (λ (w : List ℕ × Part). part_size (seen_part w.1)) is in omega arith
field_part_less (x ∷ fs) (suc i) f within is = let h : part_size (seen_part f.1) < parts_size (field_parts_of (map seen_field_part fs)) = field_part_less fs i f (omega arith) is in omega arith

pub conjunct_less : (cs : List Conjunct) (i : ℕ) (c : Conjunct) → i < length cs → c ≡ get_or cs i c → conjunct_size (seen_conjunct c) < conjuncts_size (conjuncts_of (map seen_conjunct cs))
conjunct_less [] i c within is = absurd (omega arith)
conjunct_less (x ∷ cs) zero c within is = let e : conjunct_size (seen_conjunct c) ≡ conjunct_size (seen_conjunct x) = ap (λ (w : Conjunct). conjunct_size (seen_conjunct w)) is in omega arith
conjunct_less (x ∷ cs) (suc i) c within is = let h : conjunct_size (seen_conjunct c) < conjuncts_size (conjuncts_of (map seen_conjunct cs)) = conjunct_less cs i c (omega arith) is in omega arith

pub atom_less : (all : List atom.Atom) (i : ℕ) (a : atom.Atom) → i < length all → a ≡ get_or all i a → atom_size (seen_atom a) < atoms_size (atoms_of (map seen_atom all))
atom_less [] i a within is = absurd (omega arith)
atom_less (x ∷ all) zero a within is = let e : atom_size (seen_atom a) ≡ atom_size (seen_atom x) = ap (λ (w : atom.Atom). atom_size (seen_atom w)) is in omega arith
atom_less (x ∷ all) (suc i) a within is = let h : atom_size (seen_atom a) < atoms_size (atoms_of (map seen_atom all)) = atom_less all i a (omega arith) is in omega arith

pub term_less : (ss : List Signed) (i : ℕ) (s : Signed) → i < length ss → s ≡ get_or ss i s → ty_size (seen_ty s.term) < part_size (part_of (map seen_signed ss))
term_less [] i s within is = absurd (omega arith)
term_less (x ∷ ss) zero s within is = let e : ty_size (seen_ty s.term) ≡ ty_size (seen_ty x.term) = ap (λ (w : Signed). ty_size (seen_ty w.term)) is in omega arith
term_less (x ∷ ss) (suc i) s within is = let h : ty_size (seen_ty s.term) < part_size (part_of (map seen_signed ss)) = term_less ss i s (omega arith) is in omega arith

pub declared_less : (ds : List Declared) (i : ℕ) (d : Declared) → slice_get ds i ≡ Some d → ty_size (seen_ty d.ty) ≤ names_size (map seen_declared ds)
declared_less [] i d is = absurd (cc)
declared_less (x ∷ ds) zero d is = let e : x ≡ d = cc in let h : ty_size (seen_ty x.ty) ≡ ty_size (seen_ty d.ty) = ap (λ (w : Declared). ty_size (seen_ty w.ty)) e in omega arith
declared_less (x ∷ ds) (suc i) d is = let h : ty_size (seen_ty d.ty) ≤ names_size (map seen_declared ds) = declared_less ds i d is in omega arith
