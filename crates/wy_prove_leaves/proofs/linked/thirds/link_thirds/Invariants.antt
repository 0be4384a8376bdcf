use Rattle.std.proofs.Common.{List}
use Rattle.wy_term.specs.Term.{Term}
use Rattle.wy_term.specs.Nodes.{tree_at}
use Rattle.wy_term.specs.Condition.{Entry}
use Rattle.wy_facts.specs.Seen.{Stays}
use Rattle.wy_prove_drafts.specs.Draft.{IsDraft, seen_draft}
use Rattle.wy_prove_leaves.specs.linked.Grown.{Grows}
use Rattle.wy_prove_leaves.specs.linked.Links.{ArePresent, IsOneOf, ThirdAddsNothing}
use Rattle.wy_prove_leaves.proofs.linked_lemmas.LinkLemmas.{UpTo}
use Rattle.wy_prove_leaves.proofs.linked.thirds.link_thirds.Given as goal

-- chains were written, or those with the third terms so far add nothing
abbrev pub invariant-loop-k : goal.invariant-loop-k
invariant-loop-k l = record {
  draft : IsDraft l.terms l.draft;
  stays : Stays l.fn.terms l.terms;
  grows : (types : List Entry) (ts : List Term) (v w : Term) → ArePresent l.fn.terms l.labelled.present ts → IsOneOf l.fn.terms ts l.s v → IsOneOf l.fn.terms ts l.t w
      → Grows types (UpTo (ThirdAddsNothing ts l.labelled.labels.items v w) (tree_at l.fn.terms) l.labelled.present.numbers.items l.k) (seen_draft (tree_at l.fn.terms) l.fn.draft) (seen_draft (tree_at l.terms) l.draft) l.grew;
}
