use Rattle.std.proofs.Common.{List, map, take}
use Rattle.wy_prove_drafts.specs.Draft.{IsDraft, seen_draft}
use Rattle.wy_facts.specs.Seen.{Stays}
use Rattle.wy_prove_drafts.specs.wy_check_nodes.Seen.{seen_branch, seen_literal}
use Rattle.wy_prove_drafts.specs.wy_search_spec.Expansion.{with_instances}
use Rattle.wy_term.specs.Condition.{Entry}
use Rattle.wy_term.specs.Nodes.{tree_at}
use Rattle.wy_prove_rounds.specs.Moving.{AllOf, IsInstant, Moves}
use Rattle.wy_prove_rounds.proofs.instances.write_instances.Given as goal

-- the draft has moved along with the literals so far
abbrev pub invariant-loop-i : goal.invariant-loop-i
invariant-loop-i l = record {
  moves : (types : List Entry) → AllOf IsInstant (map (tree_at l.fn.terms) l.all) → Moves types (seen_branch (tree_at l.fn.terms) l.branch) (λ node. with_instances node (map (seen_literal (tree_at l.fn.terms)) (take l.i l.branch.literals.keys)) (map (tree_at l.fn.terms) l.all)) (seen_draft (tree_at l.fn.terms) l.fn.draft) (seen_draft (tree_at l.terms) l.draft);
  draft : IsDraft l.terms l.draft;
  stays : Stays l.fn.terms l.terms;
}
