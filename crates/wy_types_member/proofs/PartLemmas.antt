-- What a value's parts tell of it, an item, a field, a conjunct, an atom or a term at a time.
use Rattle.std.proofs.Common.{◌≡◌, ◌≢◌, ◌<◌, ◌≤◌, ◌∙◌, ℕ, zero, suc, ◌+◌, ◌-◌, Bool, true, false, not, ◌&&◌, ◌||◌, List, [], ◌∷◌, Option, Some, None, length, drop, get_or, map, ap, sym, refl, subst, arith}
use Rattle.std.specs.Prelude.{slice_get}
use Rattle.std.specs.Option.{option_map}
use Rattle.std.specs.Bool.{beq}
use Rattle.std.specs.Str.{bytes_eq}
use Rattle.std.proofs.lemmas.List.{drop_all, length-map}
use Rattle.std.proofs.lemmas.Option.{slice_get-map}
use Rattle.wy_lemmas.proofs.Lists.{next_of as next_item}
use Rattle.wy_value.specs.Datum as datum
use Rattle.wy_value.specs.Datum.{Datum}
use Rattle.wy_value.specs.Values.{names_of}
use Rattle.wy_value.specs.declared.value.Value.{Value}
use Rattle.wy_value.specs.declared.value.Value.TheVariants as value
use Rattle.wy_value.specs.Seen.{seen, seen_fields, seen_items}
use Rattle.wy_value.proofs.SeenLemmas.{seen_array, seen_record}
use Rattle.wy_core.specs.Types as ty
use Rattle.wy_core.specs.CoreSeen.{field_parts_of, field_tys_of, part_of, seen_part, seen_ty}
use Rattle.wy_core.specs.declared.types.Ty.{Ty}
use Rattle.wy_core.specs.declared.types.Part.{Part, out-Part}
use Rattle.wy_core.specs.declared.types.Signed.{Signed}
use Rattle.wy_types.specs.Shape.{Shape, signed_as}
use Rattle.wy_types.specs.Names.{Declared, declared_in, each_in_ty, each_terms_in, field_readers, fields_in_tys, is_array, is_array_of, is_in_ty, is_record_of, is_record_with, item_readers, named_in, parts_in, seen_declared, shape_of, terms_in, ty_in}
use Rattle.wy_types.specs.declared.names.Declared as rust
use Rattle.wy_types_member.specs.Parts.{seen_field, seen_field_part, seen_signed}
use Rattle.wy_types_member.proofs.SizeLemmas.{seen_terms}

-- ---- names

pub all_names : (ds : List rust.Declared) (bare : ℕ) → bare ≡ length ds → bare ≡ length (map seen_declared ds)
all_names ds bare e = e ∙ sym (length-map ds seen_declared)

-- names unfolded as often as there are names
pub unfolded : (ds : List rust.Declared) (bare : ℕ) (s : Shape ty.Ty) (up : Bool) (t : ty.Ty) (b : Bool) → bare ≡ length ds
    → b ≡ ty_in (named_in (map seen_declared ds) bare s) s up t → b ≡ is_in_ty (map seen_declared ds) s up t
unfolded ds bare s up t b e h = subst (λ (k : ℕ). b ≡ ty_in (named_in (map seen_declared ds) k s) s up t) (all_names ds bare e) h

defined : (ds : List rust.Declared) (bare : ℕ) (s : Shape ty.Ty) (up : Bool) (n : ℕ) (o : Option rust.Declared) → bare ≢ 0 → slice_get ds n ≡ o
    → named_in (map seen_declared ds) bare s up n ≡ declared_in (named_in (map seen_declared ds) (bare - 1) s) s up (option_map seen_declared o)
defined ds zero s up n o some e = absurd (some refl)
defined ds (suc k) s up n o some e =
    let back : k ≡ suc k - 1 = omega arith in
    subst (λ (j : ℕ). named_in (map seen_declared ds) (suc k) s up n ≡ declared_in (named_in (map seen_declared ds) j s) s up (option_map seen_declared o)) back
    (ap (λ (x : Option Declared). declared_in (named_in (map seen_declared ds) k s) s up x) (slice_get-map seen_declared ds n ∙ ap (option_map seen_declared) e))

pub undeclared : (ds : List rust.Declared) (bare : ℕ) (s : Shape ty.Ty) (up : Bool) (n : ℕ) → bare ≢ 0 → slice_get ds n ≡ None → false ≡ named_in (map seen_declared ds) bare s up n
undeclared ds bare s up n some e = sym (defined ds bare s up n None some e)

pub in_definition : (ds : List rust.Declared) (bare : ℕ) (s : Shape ty.Ty) (up : Bool) (n : ℕ) (d : rust.Declared) (b : Bool) → bare ≢ 0 → slice_get ds n ≡ Some d → (up || not d.constrained) ≡ true
    → b ≡ ty_in (named_in (map seen_declared ds) (bare - 1) s) s up (seen_ty d.ty) → b ≡ named_in (map seen_declared ds) bare s up n
in_definition ds bare s up n d b some e may is =
    is ∙ sym (defined ds bare s up n (Some d) some e ∙ ap (λ (c : Bool). c && ty_in (named_in (map seen_declared ds) (bare - 1) s) s up (seen_ty d.ty)) may)

pub may_downward : (up constrained : Bool) → constrained ≡ false → (up || not constrained) ≡ true
may_downward true constrained e = refl
may_downward false true e = absurd (cc)
may_downward false false e = refl

-- ---- arrays and records

array_seen : (v : Value) (vs got : List Value) → v ≡ value.Array vs → got ≡ vs → seen v ≡ datum.Array (seen_items got)
array_seen v vs got is same = ap seen (is ∙ ap value.Array (sym same)) ∙ seen_array got

record_seen : (v : Value) (fs got : List (List ℕ × Value)) → v ≡ value.Record fs → got ≡ fs → seen v ≡ datum.Record (seen_fields got)
record_seen v fs got is same = ap seen (is ∙ ap value.Record (sym same)) ∙ seen_record got

pub array_in_ty : (names : List Declared) (v : Value) (vs got : List Value) (up : Bool) (t : ty.Ty) (b : Bool) → v ≡ value.Array vs → got ≡ vs
    → b ≡ each_in_ty (item_readers names (seen_items got)) up t → b ≡ is_array (shape_of names (seen v)) up t
array_in_ty names v vs got up t b is same h = h ∙ ap (λ (d : Datum). is_array (shape_of names d) up t) (sym (array_seen v vs got is same))

pub record_in_tys : (names : List Declared) (v : Value) (fs got : List (List ℕ × Value)) (up : Bool) (ts : ty.FieldTys) (b : Bool) → v ≡ value.Record fs → got ≡ fs
    → b ≡ fields_in_tys (names_of (seen_fields got)) (field_readers names (seen_fields got)) up ts → b ≡ is_record_with (shape_of names (seen v)) up ts
record_in_tys names v fs got up ts b is same h = h ∙ ap (λ (d : Datum). is_record_with (shape_of names d) up ts) (sym (record_seen v fs got is same))

pub array_in_part : (names : List Declared) (v : Value) (vs got : List Value) (p : ty.Part) (b : Bool) → v ≡ value.Array vs → got ≡ vs
    → b ≡ each_terms_in (item_readers names (seen_items got)) p → b ≡ is_array_of (shape_of names (seen v)) p
array_in_part names v vs got p b is same h = h ∙ ap (λ (d : Datum). is_array_of (shape_of names d) p) (sym (array_seen v vs got is same))

pub record_in_parts : (names : List Declared) (v : Value) (fs got : List (List ℕ × Value)) (ps : ty.FieldParts) (b : Bool) → v ≡ value.Record fs → got ≡ fs
    → b ≡ parts_in (names_of (seen_fields got)) (field_readers names (seen_fields got)) ps → b ≡ is_record_of (shape_of names (seen v)) ps
record_in_parts names v fs got ps b is same h = h ∙ ap (λ (d : Datum). is_record_of (shape_of names d) ps) (sym (record_seen v fs got is same))

-- ---- items in a type

pub stopped_no : (b rest now whole : Bool) → now ≡ (b && rest) → b ≡ false → now ≡ whole → false ≡ whole
stopped_no true rest now whole turn fails before = absurd (cc)
stopped_no false rest now whole turn fails before = sym turn ∙ before

-- ---- fields in types

never : (a b c : Bool) → c ≡ false → (a && (b && c)) ≡ false
never true true c e = e
never true false c e = refl
never false b c e = refl

pub other_length : (names : List Declared) (fs : List (List ℕ × Value)) (ts : List (List ℕ × Ty)) (up : Bool) → length fs ≢ length ts
    → false ≡ fields_in_tys (names_of (seen_fields fs)) (field_readers names (seen_fields fs)) up (field_tys_of (map seen_field ts))
other_length names [] [] up differ = absurd (differ refl)
other_length names [] (t ∷ ts) up differ = refl
other_length names (f ∷ fs) [] up differ = refl
other_length names (f ∷ fs) (t ∷ ts) up differ =
    let rest : false ≡ fields_in_tys (names_of (seen_fields fs)) (field_readers names (seen_fields fs)) up (field_tys_of (map seen_field ts)) = other_length names fs ts up (omega arith) in
    sym (never (bytes_eq f.0 t.0) (is_in_ty names (shape_of names (seen f.1)) up (seen_ty t.1)) _ (sym rest))

-- ---- parts

pub other_part_length : (names : List Declared) (fs : List (List ℕ × Value)) (ps : List (List ℕ × Part)) → length fs ≢ length ps
    → false ≡ parts_in (names_of (seen_fields fs)) (field_readers names (seen_fields fs)) (field_parts_of (map seen_field_part ps))
other_part_length names [] [] differ = absurd (differ refl)
other_part_length names [] (p ∷ ps) differ = refl
other_part_length names (f ∷ fs) [] differ = refl
other_part_length names (f ∷ fs) (p ∷ ps) differ =
    let rest : false ≡ parts_in (names_of (seen_fields fs)) (field_readers names (seen_fields fs)) (field_parts_of (map seen_field_part ps)) = other_part_length names fs ps (omega arith) in
    sym (never (bytes_eq f.0 p.0) (terms_in (is_in_ty names (shape_of names (seen f.1))) (seen_part p.1)) _ (sym rest))

pub term_turn : (r : Bool → ty.Ty → Bool) (ss : List Signed) (i : ℕ) (s : Signed) (b : Bool) → i < length ss → s ≡ get_or ss i s → b ≡ r s.up (seen_ty s.term)
    → terms_in r (part_of (map seen_signed (drop i ss))) ≡ (signed_as b s.inside && terms_in r (part_of (map seen_signed (drop (i + 1) ss))))
term_turn r ss i s b within is h =
    ap (λ (l : List Signed). terms_in r (part_of (map seen_signed l))) (next_item ss i s within is)
    ∙ ap (λ (x : Bool). signed_as x s.inside && terms_in r (part_of (map seen_signed (drop (i + 1) ss)))) (sym h)

pub signed_other : (b inside : Bool) → not (beq b inside) ≡ true → signed_as b inside ≡ false
signed_other true true e = absurd (cc)
signed_other false false e = absurd (cc)
signed_other true false e = refl
signed_other false true e = refl

pub terms_end : (r : Bool → ty.Ty → Bool) (ss : List Signed) (i : ℕ) → length ss ≤ i → terms_in r (part_of (map seen_signed (drop i ss))) ≡ true
terms_end r ss i past = ap (λ (l : List Signed). terms_in r (part_of (map seen_signed l))) (drop_all i ss past)

pub in_terms : (r : Bool → ty.Ty → Bool) (p : Part) (ss : List Signed) (b : Bool) → (out-Part p).terms ≡ ss → b ≡ terms_in r (part_of (map seen_signed ss)) → b ≡ terms_in r (seen_part p)
in_terms r p ss b is h = h ∙ ap (terms_in r) (sym (seen_terms p ss is))
