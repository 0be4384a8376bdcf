use Rattle.std.proofs.Common.{map, take, length}
use Rattle.wy_check_nodes.specs.wy_term.Nodes.{tree_at}
use Rattle.wy_check_nodes.specs.Seen.{seen_literal}
use Rattle.wy_check_splits.specs.Joined.{Notes}
use Rattle.wy_check_splits.proofs.joined.joined_by.Given as goal

-- what the literals so far join is noted
abbrev pub invariant-loop-i : goal.invariant-loop-i
invariant-loop-i l = Notes (tree_at l.terms) (length l.terms) (map (seen_literal (tree_at l.terms)) (take l.i l.branch.literals.keys)) l.joined
