use Rattle.std.proofs.Common.{◌≡◌, ◌∷◌, [], length, map}
use Rattle.wy_check_splits.specs.wy_check_nodes.Seen.{AreBelow}
use Rattle.wy_cong.proofs.atoms.list_atoms.Given as goal
use Rattle.wy_cong.specs.Atoms.{AreAtoms}
use Rattle.wy_cong.specs.Once.{atoms_at, once}
use Rattle.wy_term.specs.Nodes.{tree_at}

-- what is left comes to what the formula came to
abbrev pub invariant-loop-turn : goal.invariant-loop-turn
invariant-loop-turn l = record {
  leads : once (map (tree_at l.terms) l.found.list.items) (atoms_at (tree_at l.terms) l.tasks.items) ≡ once (map (tree_at l.terms) l.fn.found.list.items) (atoms_at (tree_at l.terms) (l.f ∷ []));
  found : AreAtoms (length l.terms) l.found;
  tasks : AreBelow (length l.terms) l.tasks.items;
}
