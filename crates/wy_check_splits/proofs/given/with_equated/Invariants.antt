use Rattle.std.proofs.Common.{◌≡◌, ◌∷◌, ◌++◌, drop, map, length}
use Rattle.wy_check_nodes.specs.wy_term.Nodes.{tree_at}
use Rattle.wy_check_nodes.specs.wy_facts.Seen.{terms_at, AreBelow}
use Rattle.wy_check_nodes.specs.Seen.{seen_branch, seen_literal}
use Rattle.wy_check_nodes.specs.wy_check_spec.valid.Kinds.{equated_to}
use Rattle.wy_check_splits.proofs.given.with_equated.Given as goal

-- what the literals so far join to the term is there
abbrev pub invariant-loop-i : goal.invariant-loop-i
invariant-loop-i l = record {
  so_far : terms_at l.terms l.all.items ++ equated_to (map (seen_literal (tree_at l.terms)) (drop l.i l.branch.literals.keys)) (tree_at l.terms l.s) ≡ tree_at l.terms l.s ∷ equated_to (seen_branch (tree_at l.terms) l.branch).literals (tree_at l.terms l.s);
  below : AreBelow (length l.terms) l.all.items;
}
