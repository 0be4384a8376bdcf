use Rattle.std.proofs.Common.{◌≡◌, List, true, map, take}
use Rattle.wy_prove_drafts.specs.Draft.{IsDraft, seen_draft}
use Rattle.wy_facts.specs.Seen.{Stays}
use Rattle.wy_prove_drafts.specs.wy_check_spec.judge.Node.{Node, has_literal}
use Rattle.wy_prove_drafts.specs.wy_check_nodes.Seen.{seen_literal}
use Rattle.wy_prove_drafts.specs.wy_search_spec.Expansion.{with_instances_by}
use Rattle.wy_term.specs.Condition.{Entry}
use Rattle.wy_term.specs.Nodes.{tree_at}
use Rattle.wy_prove_drafts.specs.wy_check_spec.valid.Ranges.{of_each}
use Rattle.wy_prove_rounds.specs.Moving.{AllOf, IsInstant, Moves}
use Rattle.wy_prove_rounds.proofs.instances.write_instances_of.Given as goal

-- the draft has moved along with the terms so far
abbrev pub invariant-loop-t : goal.invariant-loop-t
invariant-loop-t l = record {
  moves : (types : List Entry) (base : Node) → has_literal base.literals (seen_literal (tree_at l.fn.terms) (l.atom, l.holds)) ≡ true → AllOf IsInstant (map (tree_at l.fn.terms) l.all) → Moves types base (λ node. with_instances_by node l.holds (of_each (seen_literal (tree_at l.fn.terms) (l.atom, l.holds))) (map (tree_at l.fn.terms) (take l.t-index l.all))) (seen_draft (tree_at l.fn.terms) l.fn.draft) (seen_draft (tree_at l.terms) l.draft);
  draft : IsDraft l.terms l.draft;
  stays : Stays l.fn.terms l.terms;
}
