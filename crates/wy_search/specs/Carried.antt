-- What a search may be given from the one before.
use Rattle.std.specs.Prelude.{List}
use Rattle.wy_search_bounds.specs.Known.{AreKnown}
use Rattle.wy_check_nodes.specs.fronts.Front.{IsFront}
use Rattle.wy_search.specs.declared.carried.Carried.{Carried}
use Rattle.wy_term.specs.Nodes.{Plain}

-- the forms are those of literals over these terms, and the front is one of these terms
pub record IsCarried (nodes : List Plain) (c : Carried) : Type 0 where
  pub forms : AreKnown nodes c.forms
  pub front : IsFront nodes c.front
