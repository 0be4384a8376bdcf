-- The terms present in a node and their classes, as the code has them.
use Rattle.std.specs.Prelude.{◌≡◌, List}
use Rattle.wy_term.specs.Nodes.{Plain, tree_at}
use Rattle.wy_prove_drafts.specs.wy_check_spec.judge.Node.{Node}
use Rattle.wy_search_spec.specs.Standing as standing
use Rattle.wy_search_spec.specs.Classes.{classes}
use Rattle.wy_prove_drafts.specs.wy_cong.Seen.{terms_of, IsPresent}
use Rattle.wy_prove_leaves.specs.declared.stated_sums.classed.Classed.{Classed}

-- they are those of this node
pub record IsClassed (nodes : List Plain) (base : Node) (c : Classed) : Type 0 where
  pub over : IsPresent nodes c.present
  pub present : terms_of (tree_at nodes) c.present ≡ standing.present base
  pub labels : c.labels.items ≡ classes (standing.present base) base.literals
