use Rattle.std.proofs.Common.{List, map, take}
use Rattle.wy_search.specs.wy_search_bounds.Known.{AreKnown}
use Rattle.wy_prove_drafts.specs.wy_search_laws.rounds.Leaves.{IsFoldedThroughout, IsSortedThroughout}
use Rattle.wy_prove_drafts.specs.Draft.{IsDraft, seen_draft}
use Rattle.wy_facts.specs.Seen.{Stays}
use Rattle.wy_prove_drafts.specs.wy_check_nodes.Seen.{seen_branch, seen_formula}
use Rattle.wy_prove_drafts.specs.wy_search_spec.Expansion.{with_products_by}
use Rattle.wy_term.specs.Condition.{Entry}
use Rattle.wy_term.specs.Nodes.{tree_at}
use Rattle.wy_prove_rounds.specs.Moving.{Moves}
use Rattle.wy_prove_rounds.proofs.products.write_products.Given as goal

-- the draft has moved along with what stands in the node so far
abbrev pub invariant-loop-i : goal.invariant-loop-i
invariant-loop-i l = record {
  moves : (types : List Entry) → IsSortedThroughout (seen_branch (tree_at l.fn.terms) l.branch) → IsFoldedThroughout (seen_branch (tree_at l.fn.terms) l.branch) → Moves types (seen_branch (tree_at l.fn.terms) l.branch) (λ node. with_products_by (seen_branch (tree_at l.fn.terms) l.branch) (map (seen_formula (tree_at l.fn.terms)) (take l.i l.found.pending.keys)) node) (seen_draft (tree_at l.fn.terms) l.fn.draft) (seen_draft (tree_at l.terms) l.draft);
  known : AreKnown l.terms l.known;
  draft : IsDraft l.terms l.draft;
  stays : Stays l.fn.terms l.terms;
}
