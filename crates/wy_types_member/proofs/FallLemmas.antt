-- Each question of membership falls in rank to those that it asks.
use Rattle.std.proofs.Common.{◌≡◌, ◌≢◌, ◌<◌, ◌≤◌, ◌∙◌, ℕ, ◌+◌, ◌-◌, List, Some, length, get_or, map, ap, sym, subst, refl, arith}
use Rattle.std.specs.Prelude.{slice_get}
use Rattle.wy_value.specs.Datum as datum
use Rattle.wy_value.specs.declared.value.Value.{Value}
use Rattle.wy_value.specs.declared.value.Value.TheVariants as value
use Rattle.wy_value.specs.Seen.{seen, seen_fields, seen_items}
use Rattle.wy_value.proofs.SeenLemmas.{seen_array, seen_record}
use Rattle.wy_core.specs.CoreSeen.{atoms_of, conjuncts_of, field_parts_of, field_tys_of, part_of, seen_atom, seen_conjunct, seen_part, seen_ty}
use Rattle.wy_core.specs.declared.types.Ty.{Ty}
use Rattle.wy_core.specs.declared.types.TyKind as kind
use Rattle.wy_core.specs.declared.types.Atom as atom
use Rattle.wy_core.specs.declared.types.Part.{Part, out-Part}
use Rattle.wy_core.specs.declared.types.Conjunct.{Conjunct}
use Rattle.wy_core.specs.declared.types.Signed.{Signed}
use Rattle.wy_types.specs.Names.{Declared, seen_declared}
use Rattle.wy_types.specs.declared.names.Declared as rust
use Rattle.wy_types_member.specs.Parts.{seen_field, seen_field_part, seen_signed}
use Rattle.wy_types_member.proofs.RankLemmas.{atom_size, atoms_size, conjunct_size, conjuncts_size, data_size, datum_size, fields_size, names_size, part_size, parts_size, ty_size, tys_size, rank, by_kind, by_name, by_part, by_parts, by_type, by_value}
use Rattle.wy_types_member.proofs.SizeLemmas.{seen_array_atom, seen_array_ty, seen_named_ty, seen_negatives, seen_record_atom, seen_record_ty, seen_terms, item_less, field_less, field_ty_less, field_part_less, conjunct_less, atom_less, term_less, declared_less}

-- ---- from a type

pub record_falls : (names : List Declared) (v k : ℕ) (t : Ty) (tys fs : List (List ℕ × Ty)) → t.kind ≡ kind.Record tys → fs ≡ tys
    → rank names v 0 (1 + (tys_size (field_tys_of (map seen_field fs)) + tys_size (field_tys_of (map seen_field fs)))) < rank names v k (ty_size (seen_ty t) + ty_size (seen_ty t))
record_falls names v k t tys fs is same = by_part names v k (tys_size (field_tys_of (map seen_field fs))) (ty_size (seen_ty t)) (ap ty_size (seen_record_ty t fs (is ∙ ap kind.Record (sym same))))

pub array_falls : (names : List Declared) (v k : ℕ) (t item got : Ty) → t.kind ≡ kind.Array item → got ≡ item
    → rank names v 0 (1 + (ty_size (seen_ty got) + ty_size (seen_ty got))) < rank names v k (ty_size (seen_ty t) + ty_size (seen_ty t))
array_falls names v k t item got is same = by_part names v k (ty_size (seen_ty got)) (ty_size (seen_ty t)) (ap ty_size (seen_array_ty t got (is ∙ ap kind.Array (sym same))))

less_twice : (names : List Declared) (v k a b : ℕ) → a < b → rank names v k (a + a) < rank names v k (b + b)
less_twice names v k a b less = by_type names v k (a + a) (b + b) (omega arith)

pub named_falls : (names : List Declared) (v k : ℕ) (t : Ty) (n : ℕ) → t.kind ≡ kind.Named n → rank names v k 1 < rank names v k (ty_size (seen_ty t) + ty_size (seen_ty t))
named_falls names v k t n is =
    let e : ty_size (seen_ty t) ≡ 1 = ap ty_size (seen_named_ty t n is) in
    by_type names v k 1 (ty_size (seen_ty t) + ty_size (seen_ty t)) (omega arith)

pub definition_falls : (ds : List rust.Declared) (v bare : ℕ) (n t : ℕ) (d : rust.Declared) → bare ≢ 0 → slice_get ds n ≡ Some d
    → rank (map seen_declared ds) v (bare - 1) (ty_size (seen_ty d.ty) + ty_size (seen_ty d.ty)) < rank (map seen_declared ds) v bare t
definition_falls ds v bare n t d some is =
    let h : ty_size (seen_ty d.ty) ≤ names_size (map seen_declared ds) = declared_less ds n d is in
    by_name (map seen_declared ds) v bare (ty_size (seen_ty d.ty) + ty_size (seen_ty d.ty)) t some (omega arith)

-- ---- from a value to its parts

pub items_fall : (names : List Declared) (v : Value) (vs got : List Value) (t : ℕ) → v ≡ value.Array vs → got ≡ vs
    → rank names (data_size (seen_items got)) 0 t < rank names (datum_size (seen v)) 0 t
items_fall names v vs got t is same =
    let e : datum_size (seen v) ≡ 1 + data_size (seen_items got) = ap (λ (x : Value). datum_size (seen x)) (is ∙ ap value.Array (sym same)) ∙ ap datum_size (seen_array got) in
    by_parts names (datum_size (seen v)) (data_size (seen_items got)) 0 t t (omega arith) (omega arith)

pub fields_fall : (names : List Declared) (v : Value) (fs got : List (List ℕ × Value)) (t : ℕ) → v ≡ value.Record fs → got ≡ fs
    → rank names (fields_size (seen_fields got)) 0 t < rank names (datum_size (seen v)) 0 t
fields_fall names v fs got t is same =
    let e : datum_size (seen v) ≡ 1 + fields_size (seen_fields got) = ap (λ (x : Value). datum_size (seen x)) (is ∙ ap value.Record (sym same)) ∙ ap datum_size (seen_record got) in
    by_parts names (datum_size (seen v)) (fields_size (seen_fields got)) 0 t t (omega arith) (omega arith)

-- the names may all be unfolded again
at_length : (names : List Declared) (w bare v k s t : ℕ) → bare ≡ length names → rank names w (length names) s < rank names v k t → rank names w bare s < rank names v k t
at_length names w bare v k s t e less = subst (λ (j : ℕ). rank names w j s < rank names v k t) (sym e) less

pub item_falls : (names : List Declared) (vs : List Value) (i bare : ℕ) (v : Value) (s : ℕ) → bare ≡ length names → i < length vs → v ≡ get_or vs i v
    → rank names (datum_size (seen v)) bare (s + s) < rank names (data_size (seen_items vs)) 0 (1 + (s + s))
item_falls names vs i bare v s e within is =
    at_length names (datum_size (seen v)) bare (data_size (seen_items vs)) 0 (s + s) (1 + (s + s)) e
    (by_value names (data_size (seen_items vs)) (datum_size (seen v)) 0 (s + s) (1 + (s + s)) (item_less vs i v within is) (omega arith))

pub field_falls : (names : List Declared) (fs : List (List ℕ × Value)) (ts : List (List ℕ × Ty)) (i bare : ℕ) (f : List ℕ × Value) (t : List ℕ × Ty) → bare ≡ length names
    → i < length fs → f ≡ get_or fs i f → i < length ts → t ≡ get_or ts i t
    → rank names (datum_size (seen f.1)) bare (ty_size (seen_ty t.1) + ty_size (seen_ty t.1))
    < rank names (fields_size (seen_fields fs)) 0 (1 + (tys_size (field_tys_of (map seen_field ts)) + tys_size (field_tys_of (map seen_field ts))))
field_falls names fs ts i bare f t e within is within2 is2 =
    let small : ty_size (seen_ty t.1) < tys_size (field_tys_of (map seen_field ts)) = field_ty_less ts i t within2 is2 in
    at_length names (datum_size (seen f.1)) bare (fields_size (seen_fields fs)) 0 (ty_size (seen_ty t.1) + ty_size (seen_ty t.1)) (1 + (tys_size (field_tys_of (map seen_field ts)) + tys_size (field_tys_of (map seen_field ts)))) e
    (by_value names (fields_size (seen_fields fs)) (datum_size (seen f.1)) 0 (ty_size (seen_ty t.1) + ty_size (seen_ty t.1)) (1 + (tys_size (field_tys_of (map seen_field ts)) + tys_size (field_tys_of (map seen_field ts))))
    (field_less fs i f within is) (omega arith))

pub part_field_falls : (names : List Declared) (fs : List (List ℕ × Value)) (ps : List (List ℕ × Part)) (i : ℕ) (f : List ℕ × Value) (p : List ℕ × Part)
    → i < length fs → f ≡ get_or fs i f → i < length ps → p ≡ get_or ps i p
    → rank names (datum_size (seen f.1)) (length names) (part_size (seen_part p.1) + part_size (seen_part p.1))
    < rank names (fields_size (seen_fields fs)) 0 (1 + (parts_size (field_parts_of (map seen_field_part ps)) + parts_size (field_parts_of (map seen_field_part ps))))
part_field_falls names fs ps i f p within is within2 is2 =
    let small : part_size (seen_part p.1) < parts_size (field_parts_of (map seen_field_part ps)) = field_part_less ps i p within2 is2 in
    by_value names (fields_size (seen_fields fs)) (datum_size (seen f.1)) 0 (part_size (seen_part p.1) + part_size (seen_part p.1)) (1 + (parts_size (field_parts_of (map seen_field_part ps)) + parts_size (field_parts_of (map seen_field_part ps))))
    (field_less fs i f within is) (omega arith)

-- ---- through a normal form

pub conjunct_falls : (names : List Declared) (v : ℕ) (cs : List Conjunct) (i : ℕ) (c : Conjunct) → i < length cs → c ≡ get_or cs i c
    → rank names v 0 (conjunct_size (seen_conjunct c) + conjunct_size (seen_conjunct c)) < rank names v 0 (1 + (conjuncts_size (conjuncts_of (map seen_conjunct cs)) + conjuncts_size (conjuncts_of (map seen_conjunct cs))))
conjunct_falls names v cs i c within is =
    let small : conjunct_size (seen_conjunct c) < conjuncts_size (conjuncts_of (map seen_conjunct cs)) = conjunct_less cs i c within is in
    by_type names v 0 (conjunct_size (seen_conjunct c) + conjunct_size (seen_conjunct c)) (1 + (conjuncts_size (conjuncts_of (map seen_conjunct cs)) + conjuncts_size (conjuncts_of (map seen_conjunct cs)))) (omega arith)

pub positive_falls : (names : List Declared) (v : ℕ) (c : Conjunct) → rank names v 0 (atom_size (seen_atom c.positive) + atom_size (seen_atom c.positive)) < rank names v 0 (conjunct_size (seen_conjunct c) + conjunct_size (seen_conjunct c))
positive_falls names v c =
    let e : conjunct_size (seen_conjunct c) ≡ 1 + atom_size (seen_atom c.positive) + atoms_size (atoms_of (map seen_atom c.negatives)) = ap conjunct_size (seen_negatives c c.negatives refl) in
    by_type names v 0 (atom_size (seen_atom c.positive) + atom_size (seen_atom c.positive)) (conjunct_size (seen_conjunct c) + conjunct_size (seen_conjunct c)) (omega arith)

pub negatives_fall : (names : List Declared) (v : ℕ) (c : Conjunct) (got : List atom.Atom) → got ≡ c.negatives
    → rank names v 0 (1 + (atoms_size (atoms_of (map seen_atom got)) + atoms_size (atoms_of (map seen_atom got)))) < rank names v 0 (conjunct_size (seen_conjunct c) + conjunct_size (seen_conjunct c))
negatives_fall names v c got same =
    let e : conjunct_size (seen_conjunct c) ≡ 1 + atom_size (seen_atom c.positive) + atoms_size (atoms_of (map seen_atom got)) = ap conjunct_size (seen_negatives c got (sym same)) in
    by_type names v 0 (1 + (atoms_size (atoms_of (map seen_atom got)) + atoms_size (atoms_of (map seen_atom got)))) (conjunct_size (seen_conjunct c) + conjunct_size (seen_conjunct c)) (omega arith)

pub atom_falls : (names : List Declared) (v : ℕ) (all : List atom.Atom) (i : ℕ) (a : atom.Atom) → i < length all → a ≡ get_or all i a
    → rank names v 0 (atom_size (seen_atom a) + atom_size (seen_atom a)) < rank names v 0 (1 + (atoms_size (atoms_of (map seen_atom all)) + atoms_size (atoms_of (map seen_atom all))))
atom_falls names v all i a within is =
    let small : atom_size (seen_atom a) < atoms_size (atoms_of (map seen_atom all)) = atom_less all i a within is in
    by_type names v 0 (atom_size (seen_atom a) + atom_size (seen_atom a)) (1 + (atoms_size (atoms_of (map seen_atom all)) + atoms_size (atoms_of (map seen_atom all)))) (omega arith)

pub array_atom_falls : (names : List Declared) (v : ℕ) (a : atom.Atom) (p : Part) → a ≡ atom.Array p
    → rank names v 0 (1 + (part_size (seen_part p) + part_size (seen_part p))) < rank names v 0 (atom_size (seen_atom a) + atom_size (seen_atom a))
array_atom_falls names v a p is = by_part names v 0 (part_size (seen_part p)) (atom_size (seen_atom a)) (ap atom_size (seen_array_atom a p is))

pub record_atom_falls : (names : List Declared) (v : ℕ) (a : atom.Atom) (ps got : List (List ℕ × Part)) → a ≡ atom.Record ps → got ≡ ps
    → rank names v 0 (1 + (parts_size (field_parts_of (map seen_field_part got)) + parts_size (field_parts_of (map seen_field_part got)))) < rank names v 0 (atom_size (seen_atom a) + atom_size (seen_atom a))
record_atom_falls names v a ps got is same =
    by_part names v 0 (parts_size (field_parts_of (map seen_field_part got))) (atom_size (seen_atom a)) (ap atom_size (seen_record_atom a got (is ∙ ap atom.Record (sym same))))

pub term_falls : (names : List Declared) (v bare : ℕ) (p : Part) (ss : List Signed) (i : ℕ) (s : Signed) → bare ≡ length names → (out-Part p).terms ≡ ss → i < length ss → s ≡ get_or ss i s
    → rank names v bare (ty_size (seen_ty s.term) + ty_size (seen_ty s.term)) < rank names v (length names) (part_size (seen_part p) + part_size (seen_part p))
term_falls names v bare p ss i s e terms within is =
    let small : ty_size (seen_ty s.term) < part_size (part_of (map seen_signed ss)) = term_less ss i s within is in
    let same : part_size (seen_part p) ≡ part_size (part_of (map seen_signed ss)) = ap part_size (seen_terms p ss terms) in
    at_length names v bare v (length names) (ty_size (seen_ty s.term) + ty_size (seen_ty s.term)) (part_size (seen_part p) + part_size (seen_part p)) e
    (less_twice names v (length names) (ty_size (seen_ty s.term)) (part_size (seen_part p)) (omega arith))
