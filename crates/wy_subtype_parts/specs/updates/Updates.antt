-- The records of a type with another value at a field.
use Rattle.std.specs.Prelude.{◌≡◌, ℕ, List, [], ◌∷◌, true, cond}
use Rattle.std.specs.Str.{bytes_eq}
use Rattle.wy_subtype.specs.wy_core.Types.{Ty, NormalTy}
use Rattle.wy_subtype.specs.wy_types.declared.conjuncts.Part.{Part}
use Rattle.wy_subtype.specs.wy_types.declared.conjuncts.Signed.{Signed}
use Rattle.wy_subtype.specs.wy_types.declared.conjuncts.Atom.TheVariants as atom
use Rattle.wy_subtype.specs.wy_types.declared.conjuncts.Conjunct.{Conjunct}
use Rattle.wy_subtype.specs.wy_types.declared.question.Question.{Question}
use Rattle.wy_subtype.specs.wy_types.Same.{united_conjuncts}
use Rattle.wy_subtype.specs.wy_types.Conjuncts.{same_term, with_sides, dnf_part}
use Rattle.wy_subtype.specs.wy_types.Names.{Declared}
use Rattle.wy_subtype.specs.wy_types.Reading.{ty_at, conjuncts_at}
use Rattle.wy_subtype.specs.wy_types.Reach.{IsWide}
use Rattle.wy_subtype.specs.wy_types.Questions.{numbered, first_part}
use Rattle.wy_subtype.specs.declared.valued.Inhabited.{Inhabited}
use Rattle.wy_subtype.specs.Valued.{AreThose}

-- the part of a field, or the terms where it is the field that is replaced
abbrev pub part_at : List ℕ → List (Signed ℕ) → List ℕ × Part ℕ → Part ℕ
part_at f terms x = cond (bytes_eq x.0 f) (record { terms = terms }) x.1

-- the fields of a way, with these terms at one of them
abbrev pub replaced : List ℕ → List (Signed ℕ) → List (List ℕ × Part ℕ) → List (List ℕ × Part ℕ)
replaced f terms [] = []
replaced f terms (x ∷ way) = (x.0, part_at f terms x) ∷ replaced f terms way

-- the conjuncts, and the record of these fields where it isn't among them
abbrev pub with_record : List (Conjunct ℕ) → List (List ℕ × Part ℕ) → List (Conjunct ℕ)
with_record made fields = united_conjuncts same_term made (record { positive = atom.Record fields; negatives = [] } ∷ [])

-- the records of the ways, each once, with these terms at a field
abbrev pub records_of : List ℕ → List (Signed ℕ) → List (Conjunct ℕ) → List (List (List ℕ × Part ℕ)) → List (Conjunct ℕ)
records_of f terms made [] = made
records_of f terms made (way ∷ ways) = records_of f terms (with_record made (replaced f terms way)) ways

-- the conjuncts of what is in the first type of a question
abbrev pub all_of : Question → List (Conjunct ℕ)
all_of q = dnf_part q.table q.depth (first_part q)

-- what is in the second type of a question
abbrev pub second_part : Question → List (Signed ℕ)
second_part q = with_sides q.table q.depth [] true true q.second

-- the type is the union of the ways of the other's records in which each field's part has a value, with the value's type at the field
pub record IsWith (names : List Declared) (f : List ℕ) (t value made : Ty) : Type 0 where
  pub found : Inhabited
  pub those : AreThose (numbered names t value).table (numbered names t value).depth (all_of (numbered names t value)) found
  pub whole : made ≡ NormalTy (conjuncts_at (ty_at (numbered names t value).table (numbered names t value).depth) (records_of f (second_part (numbered names t value)) [] found.ways))

-- the question about the type is wide, in a table with both
abbrev pub IsWideWith : List Declared → Ty → Ty → Type 0
IsWideWith names t value = let q = numbered names t value in IsWide q.table q.depth (first_part q)
