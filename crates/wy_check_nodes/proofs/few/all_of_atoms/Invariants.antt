use Rattle.std.proofs.Common.{◌≡◌, ◌≤◌, length, drop}
use Rattle.wy_check_spec.specs.wy_term.Nodes.{tree_at, parts_at}
use Rattle.wy_check_spec.specs.judge.Judgement.{judged_all}
use Rattle.wy_check_nodes.specs.Seen.{seen_branch}
use Rattle.wy_check_nodes.proofs.few.all_of_atoms.Given as goal

-- the members behind have been judged
abbrev pub invariant-loop-left : goal.invariant-loop-left
invariant-loop-left l = record {
  within : l.left ≤ length l.members;
  value : l.verdict ≡ judged_all (seen_branch (tree_at l.terms) l.branch).literals (parts_at (tree_at l.terms) (drop l.left l.members));
}

abbrev pub decreases-loop-left : goal.decreases-loop-left
decreases-loop-left l = l.left
