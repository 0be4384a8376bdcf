-- The types of the items of arrays in a type.
use Rattle.std.specs.Prelude.{◌≡◌, ℕ, List, [], ◌∷◌, Bool, true, false, ◌&&◌, ◌⊎◌}
use Rattle.wy_subtype.specs.wy_value.Datum.{Datum, Data, no_items, item}
use Rattle.wy_subtype.specs.wy_value.Datum as datum
use Rattle.wy_subtype.specs.wy_core.Types.{Ty, NormalTy}
use Rattle.wy_subtype.specs.wy_types.declared.conjuncts.Atom.{Atom}
use Rattle.wy_subtype.specs.wy_types.declared.conjuncts.Atom.TheVariants as atom
use Rattle.wy_subtype.specs.wy_types.declared.conjuncts.Conjunct.{Conjunct}
use Rattle.wy_subtype.specs.wy_types.declared.question.Question.{Question}
use Rattle.wy_subtype.specs.wy_types.declared.table.Table.{Table}
use Rattle.wy_subtype.specs.wy_types.Same.{united_conjuncts}
use Rattle.wy_subtype.specs.wy_types.Conjuncts.{same_term, dnf_part, narrow_part}
use Rattle.wy_subtype.specs.wy_types.Names.{Declared, Up}
use Rattle.wy_subtype.specs.wy_types.Reading.{ty_at, conjuncts_at}
use Rattle.wy_subtype.specs.wy_types.Questions.{numbered, IsWideAbout}
use Rattle.wy_subtype.specs.Valued.{AreValued}
use Rattle.wy_subtype_parts.specs.Norms.{all_of, IsNorm}

-- the list, and the conjuncts of the part of an array
abbrev pub with_items : Table → ℕ → List (Conjunct ℕ) → Atom ℕ → List (Conjunct ℕ)
with_items table k made (atom.Array p) = united_conjuncts same_term made (dnf_part table k p.terms)
with_items table k made _ = made

-- so for each of the conjuncts: the union of the parts of the arrays among them
abbrev pub elements : Table → ℕ → List (Conjunct ℕ) → List (Conjunct ℕ) → List (Conjunct ℕ)
elements table k made [] = made
elements table k made (c ∷ cs) = elements table k (with_items table k made c.positive) cs

-- each merge on the way to the conjuncts of an array's part has few pairs
abbrev pub narrow_items : Table → ℕ → Atom ℕ → Bool
narrow_items table k (atom.Array p) = narrow_part table k p.terms
narrow_items table k _ = true

-- so for each of the conjuncts
abbrev pub narrow_elements : Table → ℕ → List (Conjunct ℕ) → Bool
narrow_elements table k [] = true
narrow_elements table k (c ∷ cs) = narrow_items table k c.positive && narrow_elements table k cs

-- the type is the union of the parts of the arrays among the conjuncts of the other that have a value
pub record IsElements (names : List Declared) (t : Ty) (made : Ty) : Type 0 where
  pub conjuncts : List (Conjunct ℕ)
  pub valued : AreValued (numbered names t t).table (numbered names t t).depth (all_of (numbered names t t)) conjuncts
  pub whole : made ≡ NormalTy (conjuncts_at (ty_at (numbered names t t).table (numbered names t t).depth) (elements (numbered names t t).table (numbered names t t).depth [] conjuncts))

-- the normal form of what the items of arrays in the type may be
abbrev pub IsElement : List Declared → Ty → Ty → Type 0
IsElement names t made = (union : Ty) × IsElements names t union × IsNorm names union made

-- the union of the parts of arrays is wide
abbrev pub IsWideUnion : List Declared → Ty → Type 0
IsWideUnion names t =
    (conjuncts : List (Conjunct ℕ))
    × AreValued (numbered names t t).table (numbered names t t).depth (all_of (numbered names t t)) conjuncts
    × (narrow_elements (numbered names t t).table (numbered names t t).depth conjuncts ≡ false)

-- the question about the type is wide, or the union
abbrev pub IsWideItems : List Declared → Ty → Type 0
IsWideItems names t = IsWideAbout names t ⊎ IsWideUnion names t

-- so, or the question about the union is wide
abbrev pub IsWideElement : List Declared → Ty → Type 0
IsWideElement names t = IsWideItems names t ⊎ ((union : Ty) × IsElements names t union × IsWideAbout names union)

-- the datum is one of these items
abbrev pub IsItem : Datum → Data → Type 0
IsItem d no_items = ⊥
IsItem d (item x rest) = (x ≡ d) ⊎ IsItem d rest

-- some array in the type has the datum as an item
abbrev pub IsItemIn : List Declared → Ty → Datum → Type 0
IsItemIn names t d = (items : Data) × IsItem d items × (Up names (datum.Array items) t ≡ true)
