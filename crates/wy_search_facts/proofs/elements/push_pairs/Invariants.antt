use Rattle.std.proofs.Common.{◌≡◌, drop, map, length}
use Rattle.wy_facts.specs.Seen.{terms_at, AreBelow, Stays}
use Rattle.wy_cong.specs.wy_check_spec.judge.Node.{Node, with_formulas}
use Rattle.wy_check_nodes.specs.Seen.{seen_formula}
use Rattle.wy_cong.specs.wy_search_spec.Expansion.{with_pairs}
use Rattle.wy_search_facts.proofs.elements.push_pairs.Given as goal
use Rattle.wy_term.specs.Nodes.{tree_at}

-- what the facts so far lead to, and what is left adds to it, are all
abbrev pub invariant-loop-i : goal.invariant-loop-i
invariant-loop-i l = record {
  leads : (start : Node) → with_pairs (with_formulas start (terms_at l.terms l.facts.items)) (map (seen_formula (tree_at l.fn.terms)) l.found.pending.keys) (map (seen_formula (tree_at l.fn.terms)) (drop l.i l.found.pending.keys)) ≡ with_pairs (with_formulas start (terms_at l.fn.terms l.fn.facts.items)) (map (seen_formula (tree_at l.fn.terms)) l.found.pending.keys) (map (seen_formula (tree_at l.fn.terms)) l.found.pending.keys);
  below : AreBelow (length l.terms) l.facts.items;
  stays : Stays l.fn.terms l.terms;
}
