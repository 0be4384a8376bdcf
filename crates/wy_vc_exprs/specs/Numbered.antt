-- Numbers of terms that name trees, as a list of terms grows.
use Rattle.std.specs.Prelude.{◌≡◌, ℕ, List, ◌++◌, map}
use Rattle.wy_term.specs.Term.{Term}
use Rattle.wy_term.specs.Nodes.{Plain, tree_at}
use Rattle.wy_vc_operations.specs.Growing.{AreAt}

-- the trees that the numbers name
abbrev pub trees_of : List Plain → List ℕ → List Term
trees_of nodes ks = map (tree_at nodes) ks

-- behind the old numbers stand others, which name these trees
pub record Grown (nodes : List Plain) (old new : List ℕ) (ts : List Term) : Type 0 where
  pub more : List ℕ
  pub is : new ≡ old ++ more
  pub at : AreAt nodes more ts
