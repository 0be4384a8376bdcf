-- What was found in a table of both types.
use Rattle.std.proofs.Common.{◌≡◌, ℕ, List, [], subst}
use Rattle.wy_subtype.specs.wy_core.Types.{Ty, NormalTy}
use Rattle.wy_subtype.specs.wy_types.declared.question.Question.{Question}
use Rattle.wy_subtype.specs.wy_types.Names.{Declared}
use Rattle.wy_subtype.specs.wy_types.Questions.{numbered, first_part}
use Rattle.wy_subtype.specs.wy_types.Reach.{IsWide}
use Rattle.wy_subtype.specs.wy_types.Reading.{ty_at, conjuncts_at}
use Rattle.wy_subtype.specs.declared.valued.Inhabited.{Inhabited}
use Rattle.wy_subtype.specs.Valued.{AreThose}
use Rattle.wy_subtype_parts.specs.updates.Updates.{IsWith, IsWideWith, all_of, records_of, second_part}

pub is_with : (names : List Declared) (f : List ℕ) (t value : Ty) (q : Question) → q ≡ numbered names t value → (found : Inhabited) → AreThose q.table q.depth (all_of q) found
    → (made : Ty) → made ≡ NormalTy (conjuncts_at (ty_at q.table q.depth) (records_of f (second_part q) [] found.ways)) → IsWith names f t value made
is_with names f t value q e found those made whole = record {
  found = found;
  those = subst (λ (x : Question). AreThose x.table x.depth (all_of x) found) e those;
  whole = subst (λ (x : Question). made ≡ NormalTy (conjuncts_at (ty_at x.table x.depth) (records_of f (second_part x) [] found.ways))) e whole;
}

pub not_wide : (names : List Declared) (t value : Ty) (q : Question) → q ≡ numbered names t value → (IsWide q.table q.depth (first_part q) → ⊥) → IsWideWith names t value → ⊥
not_wide names t value q e n = subst (λ (x : Question). IsWide x.table x.depth (first_part x) → ⊥) e n
