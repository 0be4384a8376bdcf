-- Which programs' conditions give `in` one meaning.
use Rattle.std.specs.Prelude.{ℕ, List, [], ◌∷◌}
use Rattle.wy_sound_terms.specs.wy_core.Types.{Ty}
use Rattle.wy_sound_terms.specs.wy_core.CoreTree.{Core}
use Rattle.wy_sound_terms.specs.wy_core.formed.Bound.{Bound}
use Rattle.wy_sound_terms.specs.wy_core.formed.Recursion.{Recursion}
use Rattle.wy_check_laws.specs.wy_term.Condition.{Condition}
use Rattle.wy_check_laws.specs.wy_term.Unfolding.{AreGrounded}
use Rattle.wy_sound_terms.specs.formed.OwedConditions.{owed_conditions}

-- of each condition: each type is listed once, its Val name is the only free name of its formula, and whether that holds of a datum rests on listed types at earlier pairs of a type and a datum alone, in an order without endless descents
abbrev pub AllGrounded : List Condition → Type 0
AllGrounded [] = Unit {0}
AllGrounded (c ∷ cs) = AreGrounded c.types × AllGrounded cs

-- so of every program whose names lead where they should, and whose types recur through records or arrays, as those of formed cores do
abbrev pub OwedConditionsAreGrounded : Type 0
OwedConditionsAreGrounded = (core : Core ℕ) (flow : List Ty) → Bound core → Recursion core → AllGrounded (owed_conditions core flow)
