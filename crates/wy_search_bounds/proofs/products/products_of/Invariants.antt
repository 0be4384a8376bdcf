use Rattle.std.proofs.Common.{◌≡◌, drop, length, map}
use Rattle.wy_search_bounds.proofs.products.products_of.Given as goal
use Rattle.wy_search_bounds.specs.Known.{AreKnown}
use Rattle.wy_cong.specs.wy_facts.Seen.{terms_at, AreBelow, Stays}
use Rattle.wy_cong.specs.wy_check_spec.judge.Node.{Node, with_formulas}
use Rattle.wy_cong.specs.wy_check_nodes.Seen.{seen_branch, seen_formula}
use Rattle.wy_cong.specs.wy_search_spec.Expansion.{with_products_by}
use Rattle.wy_cong.specs.wy_search_spec.Standing.{standing}
use Rattle.wy_term.specs.Nodes.{tree_at}

-- what is stated so far, and what is left states, are all
abbrev pub invariant-loop-i : goal.invariant-loop-i
invariant-loop-i l = record {
  leads : (start : Node) → with_products_by (seen_branch (tree_at l.fn.terms) l.branch) (map (seen_formula (tree_at l.fn.terms)) (drop l.i l.found.pending.keys)) (with_formulas start (terms_at l.terms l.stated.items)) ≡ with_products_by (seen_branch (tree_at l.fn.terms) l.branch) (standing (seen_branch (tree_at l.fn.terms) l.branch)) start;
  below : AreBelow (length l.terms) l.stated.items;
  known : AreKnown l.terms l.known;
  stays : Stays l.fn.terms l.terms;
}
