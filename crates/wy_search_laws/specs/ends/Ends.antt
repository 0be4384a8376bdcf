-- What it means that every search ends.
use Rattle.std.specs.Prelude.{ℕ}
use Rattle.wy_search_bounds.specs.wy_term.Condition.{Condition}
use Rattle.wy_search_bounds.specs.wy_term.Unfolding.{AreClosed}
use Rattle.wy_search_bounds.specs.wy_search_spec.Tree.{IsVerdict, Verdict}
use Rattle.wy_search_bounds.specs.wy_check_laws.sound.Sortedness.{IsSortedCondition}

-- the search of the condition has a verdict at this budget of leaves: some number of turns comes to it
abbrev pub HasVerdict : Condition → ℕ → Type 0
HasVerdict c budget = (v : Verdict) × IsVerdict c budget v

-- Each condition of sorted formulas has a verdict at each budget. The formula of each of its named types has no other free name than the one that is listed with it.
abbrev pub EverySearchEnds : Type 0
EverySearchEnds = (c : Condition) (budget : ℕ) → IsSortedCondition c → AreClosed c.types → HasVerdict c budget
