-- What numbers name as a list of nodes grows.
use Rattle.std.specs.Prelude.{◌≡◌, ℕ, ◌<◌, ◌≤◌, List, length}
use Rattle.wy_term.specs.Term.{Term}
use Rattle.wy_term.specs.Nodes.{Plain, tree_at, Extends}

-- the number names this tree
pub record IsAt (nodes : List Plain) (t : ℕ) (tree : Term) : Type 0 where
  pub within : t < length nodes
  pub is : tree_at nodes t ≡ tree

-- what the old numbers name, they still name; no node is lost
pub record Keeps (old new : List Plain) : Type 0 where
  pub grows : length old ≤ length new
  pub trees : (t : ℕ) → t < length old → tree_at new t ≡ tree_at old t
  pub extends : Extends old new
