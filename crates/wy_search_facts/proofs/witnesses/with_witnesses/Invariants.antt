use Rattle.std.proofs.Common.{◌≡◌, drop, map}
use Rattle.wy_facts.specs.Seen.{Stays}
use Rattle.wy_search_facts.proofs.witnesses.with_witnesses.Given as goal
use Rattle.wy_search_facts.specs.Seen.{seen_spot, IsSpot}
use Rattle.wy_check_nodes.specs.Seen.{seen_branch, seen_literal}
use Rattle.wy_cong.specs.wy_search_spec.Expansion.{with_witnesses}
use Rattle.wy_term.specs.Nodes.{tree_at}

-- the node so far, and what is left, lead to the whole node
abbrev pub invariant-loop-atom : goal.invariant-loop-atom
invariant-loop-atom l = record {
  leads : with_witnesses (seen_spot (tree_at l.terms) l.spot) (map (seen_literal (tree_at l.fn.terms)) (drop l.atom-index l.atom-items)) ≡ with_witnesses (seen_spot (tree_at l.fn.terms) l.fn.spot) (seen_branch (tree_at l.fn.terms) l.fn.spot.branch).literals;
  spot : IsSpot l.terms l.spot;
  stays : Stays l.fn.terms l.terms;
}
