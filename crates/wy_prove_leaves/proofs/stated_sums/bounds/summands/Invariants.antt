use Rattle.std.proofs.Common.{◌≡◌, drop}
use Rattle.wy_term.specs.Nodes.{tree_at}
use Rattle.wy_facts.specs.Seen.{Stays}
use Rattle.wy_prove_drafts.specs.wy_check_spec.judge.Node.{Node}
use Rattle.wy_prove_drafts.specs.wy_cong.Seen.{terms_of}
use Rattle.wy_search_spec.specs.Standing.{present}
use Rattle.wy_prove_drafts.specs.wy_search_bounds.Seen.{seen_takings}
use Rattle.wy_prove_drafts.specs.Draft.{seen_draft}
use Rattle.wy_prove_leaves.specs.stated_sums.Replacing.{AreBounds}
use Rattle.wy_prove_leaves.proofs.stated_sums_lemmas.TakenLemmas.{IsTaking}
use Rattle.wy_prove_leaves.proofs.stated_sums.bounds.summands.Given as goal

-- the bounds so far are listed
abbrev pub invariant-loop-taking : goal.invariant-loop-taking
invariant-loop-taking l = record {
  taking : (base : Node) → terms_of (tree_at l.fn.terms) l.present ≡ present base → AreBounds base (seen_draft (tree_at l.fn.terms) l.draft).node.literals (seen_takings l.taken) → IsTaking base (seen_draft (tree_at l.fn.terms) l.draft).node.literals l.own l.pairs.items (seen_takings l.taken) (seen_takings (drop l.taking-index l.taken));
  stays : Stays l.fn.terms l.terms;
}
