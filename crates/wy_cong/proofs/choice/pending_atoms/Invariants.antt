use Rattle.std.proofs.Common.{◌≡◌, [], drop, length, map}
use Rattle.wy_check_splits.specs.wy_check_nodes.Seen.{seen_branch, seen_formula}
use Rattle.wy_search_spec.specs.Splitting.{atoms_of}
use Rattle.wy_cong.proofs.choice.pending_atoms.Given as goal
use Rattle.wy_cong.specs.Atoms.{AreAtoms}
use Rattle.wy_cong.specs.Once.{once}
use Rattle.wy_term.specs.Nodes.{tree_at}

-- what is left comes to what all came to
abbrev pub invariant-loop-i : goal.invariant-loop-i
invariant-loop-i l = record {
  left : once (map (tree_at l.terms) l.found.list.items) (atoms_of (map (seen_formula (tree_at l.terms)) (drop l.i l.branch.pending.keys))) ≡ once [] (atoms_of (seen_branch (tree_at l.terms) l.branch).pending);
  found : AreAtoms (length l.terms) l.found;
}
