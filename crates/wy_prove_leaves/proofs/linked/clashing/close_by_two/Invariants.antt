use Rattle.std.proofs.Common.{◌≡◌}
use Rattle.wy_term.specs.Nodes.{tree_at}
use Rattle.wy_prove_drafts.specs.Draft.{IsDraft, seen_draft}
use Rattle.wy_prove_leaves.specs.linked.Ended.{ClashesWithNone}
use Rattle.wy_prove_leaves.proofs.linked_lemmas.EndedLemmas.{TriedUpTo}
use Rattle.wy_prove_leaves.proofs.linked.clashing.close_by_two.Given as goal

-- nothing was written, and none so far clashes
abbrev pub invariant-loop-i : goal.invariant-loop-i
invariant-loop-i l = record {
  draft : IsDraft l.terms l.draft;
  same : seen_draft (tree_at l.terms) l.draft ≡ seen_draft (tree_at l.terms) l.fn.draft;
  tried : TriedUpTo (ClashesWithNone (seen_draft (tree_at l.terms) l.fn.draft).node.literals) l.i;
}
