use Rattle.std.proofs.Common.{◌≡◌, drop, map}
use Rattle.wy_check_splits.specs.wy_check_nodes.Seen.{seen_branch, seen_literal}
use Rattle.wy_search_spec.specs.Classes.{with_equations}
use Rattle.wy_term.specs.Nodes.{tree_at}
use Rattle.wy_cong.specs.Seen.{terms_of}
use Rattle.wy_cong.proofs.closing.with_equations.Given as goal

abbrev pub invariant-loop-i : goal.invariant-loop-i
invariant-loop-i l = with_equations (terms_of (tree_at l.terms) l.present) l.labels.items (map (seen_literal (tree_at l.terms)) (drop l.i l.branch.literals.keys)) ≡ with_equations (terms_of (tree_at l.terms) l.present) l.fn.labels.items (seen_branch (tree_at l.terms) l.branch).literals
