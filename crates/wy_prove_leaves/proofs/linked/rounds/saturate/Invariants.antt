use Rattle.std.proofs.Common.{List}
use Rattle.wy_term.specs.Term.{Term}
use Rattle.wy_term.specs.Nodes.{tree_at}
use Rattle.wy_term.specs.Condition.{Entry}
use Rattle.wy_facts.specs.Seen.{Stays}
use Rattle.wy_prove_drafts.specs.Draft.{IsDraft, seen_draft}
use Rattle.wy_prove_drafts.specs.Progress.{Goes}
use Rattle.wy_prove_leaves.specs.linked.Links.{ArePresent}
use Rattle.wy_prove_leaves.proofs.linked.rounds.saturate.Given as goal

-- steps were written
abbrev pub invariant-loop-round : goal.invariant-loop-round
invariant-loop-round l = record {
  draft : IsDraft l.terms l.draft;
  stays : Stays l.fn.terms l.terms;
  goes : (types : List Entry) (ts : List Term) → ArePresent l.fn.terms l.labelled.present ts → Goes types (seen_draft (tree_at l.fn.terms) l.fn.draft) (seen_draft (tree_at l.terms) l.draft);
}
