use Rattle.std.proofs.Common.{◌≡◌, ◌++◌, drop, map}
use Rattle.wy_check_splits.specs.wy_check_nodes.Seen.{seen_formula}
use Rattle.wy_search_spec.specs.Standing.{only_terms}
use Rattle.wy_term.specs.Nodes.{tree_at}
use Rattle.wy_cong.specs.Seen.{terms_of, IsPresent}
use Rattle.wy_cong.proofs.present.terms_present.Given as goal

-- what is left comes to what all came to
abbrev pub invariant-loop-i : goal.invariant-loop-i
invariant-loop-i l = record {
  left : terms_of (tree_at l.terms) l.made ++ only_terms (map (seen_formula (tree_at l.terms)) (drop l.i l.found.keys.items)) ≡ only_terms (map (seen_formula (tree_at l.terms)) l.found.keys.items);
  present : IsPresent l.terms l.made;
}
