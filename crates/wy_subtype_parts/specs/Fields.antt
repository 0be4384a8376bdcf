-- The types of the values at a field of the records in a type.
use Rattle.std.specs.Prelude.{◌≡◌, ℕ, List, [], ◌∷◌, Bool, true, false, cond, ◌&&◌, ◌||◌, ◌⊎◌, Option, Some, None, is_some, not}
use Rattle.std.specs.Str.{bytes_eq}
use Rattle.wy_subtype.specs.wy_value.Datum.{Datum, Fields, no_fields, field}
use Rattle.wy_subtype.specs.wy_value.Datum as datum
use Rattle.wy_subtype.specs.wy_core.Types.{Ty, NormalTy}
use Rattle.wy_subtype.specs.wy_types.declared.conjuncts.Part.{Part}
use Rattle.wy_subtype.specs.wy_types.declared.conjuncts.Signed.{Signed}
use Rattle.wy_subtype.specs.wy_types.declared.conjuncts.Atom.{Atom}
use Rattle.wy_subtype.specs.wy_types.declared.conjuncts.Atom.TheVariants as atom
use Rattle.wy_subtype.specs.wy_types.declared.conjuncts.Conjunct.{Conjunct}
use Rattle.wy_subtype.specs.wy_types.declared.table.Table.{Table}
use Rattle.wy_subtype.specs.wy_types.Same.{united_conjuncts}
use Rattle.wy_subtype.specs.wy_types.Conjuncts.{same_term, dnf_part, narrow_part}
use Rattle.wy_subtype.specs.wy_types.Names.{Declared, Up}
use Rattle.wy_subtype.specs.wy_types.Reading.{ty_at, conjuncts_at}
use Rattle.wy_subtype.specs.wy_types.Questions.{numbered, IsWideAbout}
use Rattle.wy_subtype.specs.declared.valued.Inhabited.{Inhabited}
use Rattle.wy_subtype.specs.Valued.{AreThose}
use Rattle.wy_subtype_parts.specs.Norms.{all_of, IsNorm}

-- ---- of data

-- the value at the field, if it is there
abbrev pub value_at : List ℕ → Fields → Option Datum
value_at f no_fields = None
value_at f (field name d rest) = cond (bytes_eq name f) (Some d) (value_at f rest)

-- is a record with the field
abbrev pub has_value_at : List ℕ → Datum → Bool
has_value_at f (datum.Record fields) = is_some (value_at f fields)
has_value_at f _ = false

-- ---- whether each conjunct is of records with the field

-- one of the fields has the name
abbrev pub has_field : List ℕ → List (List ℕ × Part ℕ) → Bool
has_field f [] = false
has_field f (x ∷ xs) = bytes_eq x.0 f || has_field f xs

-- the atom is of records with the field
abbrev pub atom_has : List ℕ → Atom ℕ → Bool
atom_has f (atom.Record fs) = has_field f fs
atom_has f _ = false

-- so for each conjunct
abbrev pub all_have : List ℕ → List (Conjunct ℕ) → Bool
all_have f [] = true
all_have f (c ∷ cs) = atom_has f c.positive && all_have f cs

-- ---- the union of the field's parts

-- the list, and the conjuncts of the part of the field among these
abbrev pub with_value : Table → ℕ → List ℕ → List (Conjunct ℕ) → List (List ℕ × Part ℕ) → List (Conjunct ℕ)
with_value table k f made [] = made
with_value table k f made (x ∷ w) = cond (bytes_eq x.0 f) (united_conjuncts same_term made (dnf_part table k x.1.terms)) (with_value table k f made w)

-- so for each of the ways
abbrev pub values_at : Table → ℕ → List ℕ → List (Conjunct ℕ) → List (List (List ℕ × Part ℕ)) → List (Conjunct ℕ)
values_at table k f made [] = made
values_at table k f made (w ∷ ws) = values_at table k f (with_value table k f made w) ws

-- each merge on the way to the conjuncts of the field's part has few pairs
abbrev pub narrow_value : Table → ℕ → List ℕ → List (List ℕ × Part ℕ) → Bool
narrow_value table k f [] = true
narrow_value table k f (x ∷ w) = cond (bytes_eq x.0 f) (narrow_part table k x.1.terms) (narrow_value table k f w)

-- so for each of the ways
abbrev pub narrow_values : Table → ℕ → List ℕ → List (List (List ℕ × Part ℕ)) → Bool
narrow_values table k f [] = true
narrow_values table k f (w ∷ ws) = narrow_value table k f w && narrow_values table k f ws

-- ---- of types

-- what has a value of what is in the type, and whether all of it has the field
pub record HasParts (names : List Declared) (f : List ℕ) (t : Ty) (b : Bool) (made : Inhabited) : Type 0 where
  pub those : AreThose (numbered names t t).table (numbered names t t).depth (all_of (numbered names t t)) made
  pub whole : all_have f made.conjuncts ≡ b

-- the type is the union of the parts of the field, over the records with a value and their ways in which every part has one
pub record IsUnion (names : List Declared) (f : List ℕ) (t : Ty) (made : Ty) : Type 0 where
  pub found : Inhabited
  pub parts : HasParts names f t true found
  pub whole : made ≡ NormalTy (conjuncts_at (ty_at (numbered names t t).table (numbered names t t).depth) (values_at (numbered names t t).table (numbered names t t).depth f [] found.ways))

-- no type is that, since some value in the type has no such field
abbrev pub HasNoUnion : List Declared → List ℕ → Ty → Type 0
HasNoUnion names f t = (union : Ty) → IsUnion names f t union → ⊥

-- the normal form of what the values at the field may be
abbrev pub IsField : List Declared → List ℕ → Ty → Ty → Type 0
IsField names f t made = (union : Ty) × IsUnion names f t union × IsNorm names union made

-- the union of the field's parts is wide
abbrev pub IsWideUnion : List Declared → List ℕ → Ty → Type 0
IsWideUnion names f t =
    (found : Inhabited) × HasParts names f t true found × (narrow_values (numbered names t t).table (numbered names t t).depth f found.ways ≡ false)

-- the question about the type is wide, or, where each value has the field, the union
abbrev pub IsWideValues : List Declared → List ℕ → Ty → Type 0
IsWideValues names f t = IsWideAbout names t ⊎ IsWideUnion names f t

-- so, or the question about the union is wide
abbrev pub IsWideField : List Declared → List ℕ → Ty → Type 0
IsWideField names f t = IsWideValues names f t ⊎ ((union : Ty) × IsUnion names f t union × IsWideAbout names union)

-- some value in the type is no record with the field
abbrev pub SomeLacks : List Declared → List ℕ → Ty → Type 0
SomeLacks names f t = (d : Datum) × (has_value_at f d ≡ false) × (Up names d t ≡ true)

-- each value in the type is a record with the field
abbrev pub AllHave : List Declared → List ℕ → Ty → Type 0
AllHave names f t = (d : Datum) → Up names d t ≡ true → has_value_at f d ≡ true

-- some record in the type has the datum at the field
abbrev pub IsValueIn : List Declared → List ℕ → Ty → Datum → Type 0
IsValueIn names f t d = (fields : Fields) × (value_at f fields ≡ Some d) × (Up names (datum.Record fields) t ≡ true)
