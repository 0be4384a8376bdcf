use Rattle.std.proofs.Common.{◌≡◌, length}
use Rattle.wy_facts.specs.Seen.{AreBelow}
use Rattle.wy_check_nodes.specs.Seen.{seen_branch}
use Rattle.wy_cong.specs.wy_search_spec.Expansion.{everything, in_equation}
use Rattle.wy_check_splits.specs.Walk.{any_over}
use Rattle.wy_search_facts.proofs.equations.in_equation.Given as goal
use Rattle.wy_search_facts.specs.About.{equates_in}
use Rattle.wy_term.specs.Nodes.{tree_at}

-- the term stands in an equation of the node exactly where it does in one of what is still to be looked at
abbrev pub invariant-loop-turn : goal.invariant-loop-turn
invariant-loop-turn l = record {
  total : any_over (equates_in (tree_at l.terms) (tree_at l.terms l.v)) l.todo.keys ≡ in_equation (everything (seen_branch (tree_at l.terms) l.branch)) (tree_at l.terms l.v);
  below : AreBelow (length l.terms) l.todo.keys;
}
