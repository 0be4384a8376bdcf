use Rattle.std.proofs.Common.{◌≡◌, length}
use Rattle.wy_facts.specs.Seen.{terms_at, AreBelow, Stays}
use Rattle.wy_cong.specs.wy_check_spec.judge.Node.{Node, with_formulas}
use Rattle.wy_search_facts.proofs.elements.push_all_numbered.Given as goal
use Rattle.wy_search_facts.specs.Adding.{with_numbered}
use Rattle.wy_term.specs.Nodes.{tree_at}

-- what the facts so far lead to, and what is left adds to it, are all
abbrev pub invariant-loop-k : goal.invariant-loop-k
invariant-loop-k l = record {
  leads : (start : Node) → (with_formulas start (terms_at l.terms l.facts.items)) ≡ with_numbered (tree_at l.fn.terms l.t) (with_formulas start (terms_at l.fn.terms l.fn.facts.items)) l.k;
  below : AreBelow (length l.terms) l.facts.items;
  stays : Stays l.fn.terms l.terms;
}
