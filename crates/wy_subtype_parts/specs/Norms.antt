-- The conjuncts of a type that have a value, as a type.
use Rattle.std.specs.Prelude.{◌≡◌, ℕ, List}
use Rattle.wy_subtype.specs.wy_core.Types.{Ty, NormalTy}
use Rattle.wy_subtype.specs.wy_types.declared.conjuncts.Conjunct.{Conjunct}
use Rattle.wy_subtype.specs.wy_types.declared.question.Question.{Question}
use Rattle.wy_subtype.specs.wy_types.Conjuncts.{dnf_part}
use Rattle.wy_subtype.specs.wy_types.Names.{Declared}
use Rattle.wy_subtype.specs.wy_types.Reading.{ty_at, conjuncts_at}
use Rattle.wy_subtype.specs.wy_types.Questions.{numbered, first_part}
use Rattle.wy_subtype.specs.Valued.{AreValued}

-- the conjuncts of what is in the first type of a question
abbrev pub all_of : Question → List (Conjunct ℕ)
all_of q = dnf_part q.table q.depth (first_part q)

-- the type is made of those conjuncts of the other that have a value: it is the same set
pub record IsNorm (names : List Declared) (t : Ty) (made : Ty) : Type 0 where
  pub conjuncts : List (Conjunct ℕ)
  pub valued : AreValued (numbered names t t).table (numbered names t t).depth (all_of (numbered names t t)) conjuncts
  pub whole : made ≡ NormalTy (conjuncts_at (ty_at (numbered names t t).table (numbered names t t).depth) conjuncts)
