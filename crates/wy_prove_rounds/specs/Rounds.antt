-- What becomes of a draft beside a round of the search.
use Rattle.std.specs.Prelude.{List}
use Rattle.wy_term.specs.Condition.{Entry}
use Rattle.wy_term.specs.Unfolding.{AreClosed}
use Rattle.wy_prove_drafts.specs.wy_search_spec.Expansion.{Spot, expanded}
use Rattle.wy_prove_drafts.specs.wy_search_laws.closing.AtLeast.{IsNear}
use Rattle.wy_prove_drafts.specs.wy_search_laws.rounds.Leaves.{IsSortedThroughout, IsFoldedThroughout}
use Rattle.wy_prove_drafts.specs.wy_check_laws.sound.Sortedness.{AreSortedEntries}
use Rattle.wy_prove_drafts.specs.Progress.{Progress, Goes}

-- the search's node is of sorted and folded formulas, the draft's of sorted ones; it has at least as much, and no other names
pub record IsBeside (types : List Entry) (p : Spot) (d : Progress) : Type 0 where
  pub entries : AreSortedEntries types
  pub closed : AreClosed types
  pub sorted : IsSortedThroughout p.node
  pub folded : IsFoldedThroughout p.node
  pub draft : IsSortedThroughout d.node
  pub near : IsNear p.node d.node

-- steps were written that lead to a node beside the search's behind the round
pub record GoesBeside (types : List Entry) (p : Spot) (old new : Progress) : Type 0 where
  pub goes : Goes types old new
  pub beside : IsBeside types (expanded types p) new
