use Rattle.std.proofs.Common.{◌-◌}
use Rattle.wy_prove_drafts.specs.wy_search_laws.rounds.Leaves.{IsFoldedThroughout, IsSortedThroughout}
use Rattle.wy_prove_drafts.specs.Draft.{IsDraft, seen_draft}
use Rattle.wy_facts.specs.Seen.{Stays}
use Rattle.wy_prove_drafts.specs.wy_check_nodes.Seen.{seen_branch}
use Rattle.wy_prove_drafts.specs.wy_search_spec.Expansion.{with_schemas}
use Rattle.wy_prove_drafts.specs.wy_search_spec.Standing.{standing}
use Rattle.wy_term.specs.Condition.{condition_of}
use Rattle.wy_term.specs.Nodes.{tree_at}
use Rattle.wy_prove_rounds.specs.Moving.{Moves}
use Rattle.wy_prove_rounds.proofs.facts.write_facts.Given as goal

-- the draft has moved along with the schemas so far
abbrev pub invariant-loop-schema : goal.invariant-loop-schema
invariant-loop-schema l = record {
  moves : IsSortedThroughout (seen_branch (tree_at l.fn.terms) l.branch) → IsFoldedThroughout (seen_branch (tree_at l.fn.terms) l.branch) → Moves (condition_of l.fn.terms l.cond).types (seen_branch (tree_at l.fn.terms) l.branch) (λ node. with_schemas (condition_of l.fn.terms l.cond).types (seen_branch (tree_at l.fn.terms) l.branch) (standing (seen_branch (tree_at l.fn.terms) l.branch)) 1 (l.schema - 1) node) (seen_draft (tree_at l.fn.terms) l.fn.draft) (seen_draft (tree_at l.terms) l.draft);
  draft : IsDraft l.terms l.draft;
  stays : Stays l.fn.terms l.terms;
}
