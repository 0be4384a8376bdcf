use Rattle.std.proofs.Common.{◌≡◌}
use Rattle.wy_check_splits.specs.wy_check_nodes.Seen.{seen_branch}
use Rattle.wy_search_spec.specs.Standing.{standing}
use Rattle.wy_cong.proofs.walk.listed.Given as goal
use Rattle.wy_cong.specs.Begun.{AreBegun}
use Rattle.wy_cong.specs.Walk.{IsWalk, leads}
use Rattle.wy_term.specs.Nodes.{tree_at}

-- what is listed and what is left lead to all that stands in the node
abbrev pub invariant-loop-turn : goal.invariant-loop-turn
invariant-loop-turn l = record {
  leads : leads (tree_at l.terms) l.walk ≡ standing (seen_branch (tree_at l.terms) l.branch);
  walk : IsWalk l.terms l.walk;
  begun : AreBegun (tree_at l.terms) l.walk l.walk.tasks.items;
}
