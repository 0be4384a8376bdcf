use Rattle.std.proofs.Common.{◌≡◌, ◌++◌, drop, map, length}
use Rattle.wy_check_splits.specs.wy_check_nodes.Seen.{seen_branch, seen_literal}
use Rattle.wy_search_spec.specs.Classes.{kinds_by}
use Rattle.wy_term.specs.Nodes.{tree_at}
use Rattle.wy_cong.specs.Kinded.{kinded, AreKinded}
use Rattle.wy_cong.proofs.kinds.kinds_by.Given as goal

abbrev pub invariant-loop-i : goal.invariant-loop-i
invariant-loop-i l = record {
  left : kinded (tree_at l.terms) l.kinds.items ++ kinds_by l.sign (map (seen_literal (tree_at l.terms)) (drop l.i l.branch.literals.keys)) ≡ kinds_by l.sign (seen_branch (tree_at l.terms) l.branch).literals;
  below : AreKinded (length l.terms) l.kinds.items;
}
