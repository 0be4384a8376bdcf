use Rattle.std.proofs.Common.{◌≡◌, drop, map}
use Rattle.wy_check_spec.specs.wy_term.Nodes.{tree_at}
use Rattle.wy_check_nodes.specs.Denied.{any_denied}
use Rattle.wy_check_nodes.specs.Seen.{seen_branch, seen_literal}
use Rattle.wy_check_spec.specs.valid.Literals.{stands_both_ways}
use Rattle.wy_check_nodes.proofs.shut.stands_both_ways.Given as goal

-- no literal so far is denied and holds too
abbrev pub invariant-loop-i : goal.invariant-loop-i
invariant-loop-i l = any_denied (seen_branch (tree_at l.terms) l.branch).literals (map (seen_literal (tree_at l.terms)) (drop l.i l.branch.literals.keys)) ≡ stands_both_ways (seen_branch (tree_at l.terms) l.branch).literals (seen_branch (tree_at l.terms) l.branch).literals
