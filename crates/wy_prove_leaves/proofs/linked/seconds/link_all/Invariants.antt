use Rattle.std.proofs.Common.{List}
use Rattle.wy_term.specs.Term.{Term}
use Rattle.wy_term.specs.Nodes.{tree_at}
use Rattle.wy_term.specs.Condition.{Entry}
use Rattle.wy_facts.specs.Seen.{Stays}
use Rattle.wy_prove_drafts.specs.Draft.{IsDraft, seen_draft}
use Rattle.wy_prove_leaves.specs.linked.Grown.{Grows}
use Rattle.wy_prove_leaves.specs.linked.Links.{ArePresent, SecondsAddNothing}
use Rattle.wy_prove_leaves.proofs.linked_lemmas.LinkLemmas.{UpTo}
use Rattle.wy_prove_leaves.proofs.linked.seconds.link_all.Given as goal

-- chains were written, or those that begin with the terms so far add nothing
abbrev pub invariant-loop-i : goal.invariant-loop-i
invariant-loop-i l = record {
  draft : IsDraft l.terms l.draft;
  stays : Stays l.fn.terms l.terms;
  grows : (types : List Entry) (ts : List Term) → ArePresent l.fn.terms l.labelled.present ts
      → Grows types (UpTo (SecondsAddNothing ts l.labelled.labels.items) (tree_at l.fn.terms) l.labelled.present.numbers.items l.i) (seen_draft (tree_at l.fn.terms) l.fn.draft) (seen_draft (tree_at l.terms) l.draft) l.grew;
}
