use Rattle.std.proofs.Common.{ℕ, List, drop}
use Rattle.wy_term.specs.Condition.{Entry}
use Rattle.wy_term.specs.Nodes.{tree_at}
use Rattle.wy_facts.specs.Seen.{Stays}
use Rattle.wy_prove_drafts.specs.wy_check_spec.judge.Node.{Node}
use Rattle.wy_lin.specs.Linear.{Linear}
use Rattle.wy_prove_drafts.specs.Draft.{IsDraft, seen_draft}
use Rattle.wy_prove_leaves.specs.stated_sums.Named.{AreNamed}
use Rattle.wy_prove_leaves.specs.stated_sums.Steps.{Refutes}
use Rattle.wy_prove_leaves.proofs.stated_sums_lemmas.WritingLemmas.{IsWriting}
use Rattle.wy_prove_leaves.proofs.stated_sums.steps.write_steps.Given as goal

-- where the steps refute the forms of the literals with these numbers, those that are left refute those with the numbers so far
abbrev pub invariant-loop-step : goal.invariant-loop-step
invariant-loop-step l = record {
  writing : (types : List Entry) (base : Node) (all : List (Linear ℕ)) → AreNamed base (seen_draft (tree_at l.fn.terms) l.fn.draft).node.literals l.fn.numbers.items all → Refutes all l.steps → IsWriting types base (seen_draft (tree_at l.fn.terms) l.fn.draft) (seen_draft (tree_at l.terms) l.draft) l.numbers.items (drop l.step-index l.steps);
  draft : IsDraft l.terms l.draft;
  stays : Stays l.fn.terms l.terms;
}
