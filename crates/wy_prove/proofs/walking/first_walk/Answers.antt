use Rattle.std.proofs.Common.{[], map, ap, sym, subst}
use Rattle.wy_term.specs.Nodes.{tree_at}
use Rattle.wy_term.specs.Condition.{condition_of}
use Rattle.wy_prove_rounds.specs.wy_check_spec.judge.Node.{first_node}
use Rattle.wy_prove_leaves.specs.wy_search_spec.Tree.{first_spot}
use Rattle.wy_prove_rounds.specs.wy_search.StatedSeen.{seen_spot}
use Rattle.wy_prove_rounds.specs.wy_prove_drafts.Draft.{seen_draft}
use Rattle.wy_prove.specs.Walks.{seen_waiting, AreWaiting}
use Rattle.wy_prove.proofs.TrackLemmas.{at_node}
use Rattle.wy_prove.proofs.SplitLemmas.{first_left}
use Rattle.wy_prove.proofs.WalkLemmas.{stands_so}
use Rattle.wy_prove.proofs.walking.first_walk.Goals as goal

pub returns-clause-value : goal.returns-clause-value
returns-clause-value c = λ budget v found.
    let at = tree_at c.args.terms.now in
    let k = condition_of c.args.terms.now c.args.cond.now in
    stands_so k budget v 0 (first_spot k) (seen_spot at c.in_ok-spot.spot) (at_node (first_node k)) (seen_draft at c.in_ok-draft.draft) [] (map (seen_waiting at) c.new.result.items) c.in_ok-spot.ensures.value c.in_ok-draft.ensures.seen (ap (map (seen_waiting at)) c.new.ensures.items)
    (first_left k budget v found)

pub returns-clause-walk : goal.returns-clause-walk
returns-clause-walk c = record {
  draft = c.in_ok-draft.ensures.draft;
  spot = c.in_ok-spot.ensures.spot;
  waiting = subst (AreWaiting c.args.terms.now) (sym c.new.ensures.items) tt;
}
