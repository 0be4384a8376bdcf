use Rattle.std.proofs.Common.{◌≡◌, map, take, length}
use Rattle.wy_term.specs.Nodes.{tree_at}
use Rattle.wy_check_nodes.specs.Seen.{seen_literal, AreOver}
use Rattle.wy_search.proofs.walk.open_leaf.Given as goal

-- the literals so far are copied
abbrev pub invariant-loop-i : goal.invariant-loop-i
invariant-loop-i l = record {
  copied : map (seen_literal (tree_at l.own)) l.literals.items ≡ take l.i (map (seen_literal (tree_at l.terms)) l.branch.literals.keys);
  over : AreOver (length l.own) l.literals.items;
}
