use Rattle.std.proofs.Common.{◌≡◌, ◌++◌, [], drop, length, map}
use Rattle.wy_facts.specs.Seen.{AreBelow}
use Rattle.wy_search_facts.proofs.indices.index_terms.Given as goal
use Rattle.wy_check_nodes.specs.Seen.{seen_branch, seen_formula}
use Rattle.wy_cong.specs.wy_search_spec.Expansion.{among, everything, indices_in, only_int}
use Rattle.wy_cong.specs.wy_search_spec.Standing.{standing, with_unbound}
use Rattle.wy_term.specs.Nodes.{tree_at}

-- those so far, and those of what is left, are all
abbrev pub invariant-loop-i : goal.invariant-loop-i
invariant-loop-i l = record {
  so_far : map (tree_at l.terms) l.made.items ++ only_int (among (map (seen_formula (tree_at l.terms)) (drop l.i l.found.pending.keys)) (with_unbound [] (indices_in (everything (seen_branch (tree_at l.terms) l.branch))) ++ map (tree_at l.terms) l.names)) ≡ only_int (among (standing (seen_branch (tree_at l.terms) l.branch)) (with_unbound [] (indices_in (everything (seen_branch (tree_at l.terms) l.branch))) ++ map (tree_at l.terms) l.names));
  below : AreBelow (length l.terms) l.made.items;
}
