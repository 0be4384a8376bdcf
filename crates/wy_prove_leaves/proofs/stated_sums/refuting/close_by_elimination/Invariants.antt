use Rattle.std.proofs.Common.{List, drop}
use Rattle.wy_term.specs.Condition.{Entry}
use Rattle.wy_term.specs.Nodes.{tree_at}
use Rattle.wy_facts.specs.Seen.{Stays}
use Rattle.wy_prove_drafts.specs.wy_check_nodes.Seen.{seen_branch}
use Rattle.wy_prove_drafts.specs.Draft.{IsDraft, seen_draft}
use Rattle.wy_prove_leaves.specs.linked.Linked.{AreLinkedClasses, IsBase}
use Rattle.wy_prove_leaves.specs.stated_sums.Classed.{IsClassed}
use Rattle.wy_prove_leaves.proofs.stated_sums_lemmas.LeftLemmas.{IsUpTo}
use Rattle.wy_prove_leaves.proofs.stated_sums.refuting.close_by_elimination.Given as goal

-- what is left of the literals so far is stated
abbrev pub invariant-loop-i : goal.invariant-loop-i
invariant-loop-i l = record {
  up_to : (types : List Entry) → IsBase (seen_branch (tree_at l.fn.terms) l.base) (seen_draft (tree_at l.fn.terms) l.fn.draft).node → AreLinkedClasses (seen_branch (tree_at l.fn.terms) l.base) (seen_draft (tree_at l.fn.terms) l.fn.draft).node → IsUpTo types (seen_branch (tree_at l.fn.terms) l.base) (seen_draft (tree_at l.fn.terms) l.fn.draft) (seen_draft (tree_at l.terms) l.draft) l.stated (drop l.i (seen_branch (tree_at l.fn.terms) l.base).literals);
  classed : IsClassed l.terms (seen_branch (tree_at l.fn.terms) l.base) l.classed;
  draft : IsDraft l.terms l.draft;
  stays : Stays l.fn.terms l.terms;
}
