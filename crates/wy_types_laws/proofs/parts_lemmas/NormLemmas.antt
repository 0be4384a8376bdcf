-- A normal type has the data of its type.
use Rattle.std.proofs.Common.{◌≡◌, ◌∙◌, ℕ, List, true, sym, ap}
use Rattle.wy_value.specs.Datum.{Datum}
use Rattle.wy_core.specs.Types.{Ty}
use Rattle.wy_types.specs.declared.conjuncts.Conjunct.{Conjunct}
use Rattle.wy_types.specs.declared.question.Question.{Question}
use Rattle.wy_types.specs.Membership as terms
use Rattle.wy_types.specs.Names.{Declared, Up, shape_of, is_in_normal}
use Rattle.wy_types.specs.Questions.{first_part, numbered}
use Rattle.wy_types.specs.Ranked.{IsRanked}
use Rattle.wy_types.specs.Reading.{ty_at, conjuncts_at}
use Rattle.wy_types.specs.Recursion.{RecurThroughParts}
use Rattle.wy_types.specs.Shape.{any_in}
use Rattle.wy_types.proofs.QuestionLemmas.{is_asked, question_ranked, first_agrees, conjuncts_agree}
use Rattle.wy_types.proofs.RankedLemmas.{has_laws}
use Rattle.wy_types.proofs.TermLemmas.{any_in-dnf_part}
use Rattle.wy_subtype_parts.specs.wy_subtype.Valued.{AreValued}
use Rattle.wy_subtype_parts.proofs.wy_subtype_proofs.ValueLemmas.{part_in-inside}
use Rattle.wy_subtype_parts.proofs.wy_subtype_proofs.ValuedLemmas.{any_in-valued}
use Rattle.wy_subtype_parts.specs.Norms.{all_of, IsNorm}
use Rattle.wy_types_laws.specs.parts.Parts.{NormsAreSame}

module _ (names : List Declared) (recur : RecurThroughParts names) (t : Ty) where
  abbrev pub asked : Question
  asked = numbered names t t

  pub ranked : (rank : ℕ → ℕ) × IsRanked asked.table rank asked.depth
  ranked = question_ranked names t t asked (is_asked names t t) recur

  -- all conjuncts say what the type does
  pub all_say : (d : Datum) → any_in (terms.shape_of asked.table asked.depth d) (all_of asked) ≡ Up names d t
  all_say d =
      any_in-dnf_part asked.table asked.depth (terms.shape_of asked.table asked.depth d) (has_laws asked.table ranked.0 asked.depth ranked.1 d) (first_part asked)
      ∙ (part_in-inside asked.table asked.depth ranked d asked.first ∙ first_agrees names t t asked (is_asked names t t) recur d true)

  -- so do those that have a value
  pub they_say : (list : List (Conjunct ℕ)) → AreValued asked.table asked.depth (all_of asked) list → (d : Datum) → any_in (terms.shape_of asked.table asked.depth d) list ≡ Up names d t
  they_say list valued d = any_in-valued asked.table asked.depth d (all_of asked) list valued ∙ all_say d

  -- conjuncts as a type of the program
  pub reads : (d : Datum) (cs : List (Conjunct ℕ)) → is_in_normal (shape_of names d) (conjuncts_at (ty_at asked.table asked.depth) cs) ≡ any_in (terms.shape_of asked.table asked.depth d) cs
  reads d cs = sym (conjuncts_agree names t t asked (is_asked names t t) recur d cs)

pub norms_same : NormsAreSame
norms_same names recur t made is d = ap (Up names d) is.whole ∙ (reads names recur t d is.conjuncts ∙ they_say names recur t is.conjuncts is.valued d)
