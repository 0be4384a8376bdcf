use Rattle.std.proofs.Common.{◌≡◌, ◌-◌, length}
use Rattle.wy_facts.specs.Seen.{terms_at, AreBelow, Stays}
use Rattle.wy_cong.specs.wy_check_spec.judge.Node.{Node, with_formulas}
use Rattle.wy_check_nodes.specs.Seen.{seen_branch}
use Rattle.wy_cong.specs.wy_search_spec.Expansion.{with_schemas}
use Rattle.wy_cong.specs.wy_search_spec.Standing.{standing}
use Rattle.wy_search_facts.proofs.facts.facts_of.Given as goal
use Rattle.wy_term.specs.Condition.{condition_of}
use Rattle.wy_term.specs.Nodes.{tree_at}

-- what the facts so far lead to, and what is left adds to it, are all
abbrev pub invariant-loop-schema : goal.invariant-loop-schema
invariant-loop-schema l = record {
  leads : (start : Node) → with_schemas (condition_of l.fn.terms l.cond).types (seen_branch (tree_at l.fn.terms) l.branch) (standing (seen_branch (tree_at l.fn.terms) l.branch)) l.schema (17 - l.schema) (with_formulas start (terms_at l.terms l.facts.items)) ≡ with_schemas (condition_of l.fn.terms l.cond).types (seen_branch (tree_at l.fn.terms) l.branch) (standing (seen_branch (tree_at l.fn.terms) l.branch)) 1 16 start;
  below : AreBelow (length l.terms) l.facts.items;
  stays : Stays l.fn.terms l.terms;
}
