use Rattle.std.proofs.Common.{◌≡◌, ◌++◌, drop, map}
use Rattle.wy_prove.specs.wy_check_nodes.Seen.{seen_literal}
use Rattle.wy_top.specs.Refusals.{literal_lines}
use Rattle.wy_term.specs.Nodes.{tree_at}
use Rattle.wy_top.proofs.refusing.put_literals.Given as goal

-- the text so far, and that of what is left
abbrev pub invariant-loop-i : goal.invariant-loop-i
invariant-loop-i l = l.text.items ++ literal_lines (map (seen_literal (tree_at l.terms)) (drop l.i l.literals)) ≡ l.fn.text.items ++ literal_lines (map (seen_literal (tree_at l.terms)) l.literals)
