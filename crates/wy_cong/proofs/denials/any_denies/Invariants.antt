use Rattle.std.proofs.Common.{◌≡◌, drop, map}
use Rattle.wy_check_splits.specs.wy_check_nodes.Seen.{seen_branch, seen_literal}
use Rattle.wy_search_spec.specs.Classes.{any_denies}
use Rattle.wy_term.specs.Nodes.{tree_at}
use Rattle.wy_cong.specs.Seen.{terms_of}
use Rattle.wy_cong.proofs.denials.any_denies.Given as goal

-- none so far is denied inside a class
abbrev pub invariant-loop-i : goal.invariant-loop-i
invariant-loop-i l = any_denies (terms_of (tree_at l.terms) l.present) l.labels (map (seen_literal (tree_at l.terms)) (drop l.i l.branch.literals.keys)) ≡ any_denies (terms_of (tree_at l.terms) l.present) l.labels (seen_branch (tree_at l.terms) l.branch).literals
