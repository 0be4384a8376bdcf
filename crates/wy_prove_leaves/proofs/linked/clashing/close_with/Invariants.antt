use Rattle.std.proofs.Common.{◌≡◌, Some, true}
use Rattle.wy_term.specs.Nodes.{tree_at}
use Rattle.wy_prove_drafts.specs.wy_check_spec.valid.Validity.{is_clash}
use Rattle.wy_prove_drafts.specs.Draft.{IsDraft, seen_draft}
use Rattle.wy_prove_leaves.proofs.linked_lemmas.EndedLemmas.{TriedUpTo}
use Rattle.wy_prove_leaves.proofs.linked.clashing.close_with.Given as goal

-- nothing was written, and none so far clashes
abbrev pub invariant-loop-j : goal.invariant-loop-j
invariant-loop-j l = record {
  draft : IsDraft l.terms l.draft;
  same : seen_draft (tree_at l.terms) l.draft ≡ seen_draft (tree_at l.terms) l.fn.draft;
  tried : TriedUpTo (λ n. is_clash (seen_draft (tree_at l.terms) l.fn.draft).node.literals l.i (Some n) ≡ Some true → ⊥) l.j;
}
