use Rattle.std.proofs.Common.{◌≡◌, drop, map}
use Rattle.wy_check_splits.specs.wy_check_nodes.Seen.{seen_branch}
use Rattle.wy_cong.proofs.choice.undecided_in.Given as goal
use Rattle.wy_cong.specs.Once.{first_by, undecided}
use Rattle.wy_term.specs.Nodes.{tree_at}

-- none so far is undecided
abbrev pub invariant-loop-i : goal.invariant-loop-i
invariant-loop-i l =
    first_by (undecided (seen_branch (tree_at l.terms) l.branch)) (map (tree_at l.terms) (drop l.i l.found.list.items)) ≡ first_by (undecided (seen_branch (tree_at l.terms) l.branch)) (map (tree_at l.terms) l.found.list.items)
