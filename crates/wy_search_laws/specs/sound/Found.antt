-- What it means that the search finds a condition.
use Rattle.std.specs.Prelude.{ℕ}
use Rattle.wy_search_bounds.specs.wy_term.Condition.{Condition, HoldsAlways}
use Rattle.wy_search_bounds.specs.wy_term.Unfolding.{AreClosed}
use Rattle.wy_search_bounds.specs.wy_check_laws.sound.Sortedness.{IsSortedCondition}
use Rattle.wy_search_bounds.specs.wy_search_spec.Tree.{IsVerdict, found}

-- A condition that is found within some budget is true, whatever its names stand for. The formula of each of its named types has no other free name than the one that is listed with it, and all terms are of the sorts that their places want.
abbrev pub FoundImpliesTrue : Type 0
FoundImpliesTrue = (c : Condition) (budget leaves : ℕ) → IsSortedCondition c → AreClosed c.types → IsVerdict c budget (found leaves) → HoldsAlways c
