use Rattle.std.proofs.Common.{◌≡◌, ℤ, Option, None, drop}
use Rattle.wy_search_bounds.proofs.tightest.bound_of.Given as goal
use Rattle.wy_search_bounds.specs.Bounds.{AreBounds}
use Rattle.wy_search_bounds.specs.Known.{AreKnown}
use Rattle.wy_cong.specs.wy_facts.Seen.{Stays}
use Rattle.wy_cong.specs.wy_check_nodes.Seen.{seen_branch}
use Rattle.wy_lin.specs.Seen.{seen_form}
use Rattle.wy_cong.specs.wy_search_spec.Expansion.{best_bound}
use Rattle.wy_term.specs.Nodes.{tree_at}
use Rattle.wy_cong.specs.wy_check_spec.valid.Products.{Affine}

-- the best so far, and the best of what is left, are the best of all
abbrev pub invariant-loop-i : goal.invariant-loop-i
invariant-loop-i l = record {
  best : (given : Option (Affine × ℤ)) × AreBounds (seen_branch (tree_at l.fn.terms) l.branch).literals (seen_form (tree_at l.fn.terms) l.form) l.below l.best given
      × (best_bound l.below (seen_form (tree_at l.fn.terms) l.form) given (drop l.i (seen_branch (tree_at l.fn.terms) l.branch).literals) ≡ best_bound l.below (seen_form (tree_at l.fn.terms) l.form) None (seen_branch (tree_at l.fn.terms) l.branch).literals);
  known : AreKnown l.terms l.known;
  stays : Stays l.fn.terms l.terms;
}
