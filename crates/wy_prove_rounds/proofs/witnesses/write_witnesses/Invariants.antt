use Rattle.std.proofs.Common.{◌≡◌, List, map, take}
use Rattle.wy_prove_drafts.specs.Draft.{IsDraft, seen_draft}
use Rattle.wy_facts.specs.Seen.{Stays}
use Rattle.wy_prove_drafts.specs.wy_check_nodes.Seen.{IsBranch, seen_branch, seen_literal}
use Rattle.wy_prove_drafts.specs.wy_search_spec.Expansion.{with_witnesses}
use Rattle.wy_search.specs.wy_search_facts.Seen.{seen_spot}
use Rattle.wy_term.specs.Condition.{Entry}
use Rattle.wy_term.specs.Nodes.{tree_at}
use Rattle.wy_prove_rounds.specs.Moving.{Follows, IsAlong}
use Rattle.wy_prove_rounds.proofs.witnesses.write_witnesses.Given as goal

-- the draft has gone along with the literals so far, and it is noted which of them had a witness
abbrev pub invariant-loop-i : goal.invariant-loop-i
invariant-loop-i l = record {
  follows : (types : List Entry) → IsAlong types (seen_spot (tree_at l.fn.terms) l.spot).node (seen_spot (tree_at l.fn.terms) l.spot).node (seen_draft (tree_at l.fn.terms) l.fn.draft) → Follows types (seen_spot (tree_at l.fn.terms) l.spot).node (with_witnesses (seen_spot (tree_at l.fn.terms) l.spot) (map (seen_literal (tree_at l.fn.terms)) (take l.i l.spot.branch.literals.keys))).node (seen_draft (tree_at l.fn.terms) l.fn.draft) (seen_draft (tree_at l.terms) l.draft);
  noted : (with_witnesses (seen_spot (tree_at l.fn.terms) l.spot) (map (seen_literal (tree_at l.fn.terms)) (take l.i l.spot.branch.literals.keys))).had ≡ (seen_branch (tree_at l.terms) l.had).literals;
  had : IsBranch l.terms l.had;
  draft : IsDraft l.terms l.draft;
  stays : Stays l.fn.terms l.terms;
}
