-- What is true of a worker's bench.
use Rattle.std.specs.Prelude.{nat_eq, List}
use Rattle.std.specs.HashMap.{get}
use Rattle.wy_batch.specs.declared.bench.Bench.{Bench}
use Rattle.wy_search.specs.Carried.{IsCarried}
use Rattle.wy_term.specs.Copying.{AreCopied}
use Rattle.wy_term.specs.Nodes.{Plain}

-- each number that is noted is that of a copy, and what is carried is over the bench's own terms
pub record IsBench (from : List Plain) (b : Bench) : Type 0 where
  pub copied : AreCopied from b.terms (get nat_eq b.images)
  pub carried : IsCarried b.terms b.carried
