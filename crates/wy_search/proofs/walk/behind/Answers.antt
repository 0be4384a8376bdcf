use Rattle.std.proofs.Common.{◌+◌, refl, sym, subst, arith}
use Rattle.wy_term.specs.Nodes.{tree_at}
use Rattle.wy_search_facts.specs.Seen.{seen_spot}
use Rattle.std.proofs.Common.{map}
use Rattle.wy_search.specs.Turns.{IsNextOver}
use Rattle.wy_search.specs.Walks.{AreSpots}
use Rattle.wy_search.proofs.WalkLemmas.{closed_leads, open_leads, splits_leads, goes_on_leads}
use Rattle.wy_search.proofs.walk.behind.Goals as goal

pub returns-in-Closed-clause-value : goal.returns-in-Closed-clause-value
returns-in-Closed-clause-value c = λ p n h.
    let at = tree_at c.args.terms.now in
    closed_leads at c.args.next p n c.args.leaves (c.args.leaves + 1) (map (seen_spot at) c.args.spots.items) c.in-Closed.is refl h

pub returns-in_ok-leaf-in-Open-clause-value : goal.returns-in_ok-leaf-in-Open-clause-value
returns-in_ok-leaf-in-Open-clause-value c = λ p n h.
    let at = tree_at c.args.terms.now in
    open_leads at c.args.next p n c.args.leaves (map (seen_spot at) c.args.spots.items) c.in-Open.spot c.in-Open.why c.in_ok-leaf-in-Open.leaf c.in-Open.is c.in_ok-leaf-in-Open.ensures.leaf c.in_ok-leaf-in-Open.ensures.why c.in_ok-leaf-in-Open.ensures.literals h

pub returns-in_ok-both-in-Splits-clause-value : goal.returns-in_ok-both-in-Splits-clause-value
returns-in_ok-both-in-Splits-clause-value c = λ p n h.
    splits_leads (tree_at c.args.terms.now) c.args.next p n c.args.leaves c.in-Splits.left c.in-Splits.right c.args.spots.items c.in_ok-second-in-Splits.second.items c.in_ok-both-in-Splits.both.items c.in-Splits.is c.in_ok-second-in-Splits.ensures c.in_ok-both-in-Splits.ensures h

pub returns-in_ok-both-in-Splits-clause-walk : goal.returns-in_ok-both-in-Splits-clause-walk
returns-in_ok-both-in-Splits-clause-walk c =
    let nodes = c.args.terms.now in
    let over = subst (IsNextOver nodes) c.in-Splits.is c.requires.next in
    record {
      spots = subst (AreSpots nodes) (sym c.in_ok-both-in-Splits.ensures) (over.0, subst (AreSpots nodes) (sym c.in_ok-second-in-Splits.ensures) (over.1, c.requires.spots));
      counted = omega arith;
    }

pub returns-in_ok-spots-in-GoesOn-clause-value : goal.returns-in_ok-spots-in-GoesOn-clause-value
returns-in_ok-spots-in-GoesOn-clause-value c = λ p n h.
    goes_on_leads (tree_at c.args.terms.now) c.args.next p n c.args.leaves c.in-GoesOn.more c.args.spots.items c.in_ok-spots-in-GoesOn.spots.items c.in-GoesOn.is c.in_ok-spots-in-GoesOn.ensures h

pub returns-in_ok-spots-in-GoesOn-clause-walk : goal.returns-in_ok-spots-in-GoesOn-clause-walk
returns-in_ok-spots-in-GoesOn-clause-walk c =
    let nodes = c.args.terms.now in
    record {
      spots = subst (AreSpots nodes) (sym c.in_ok-spots-in-GoesOn.ensures) (subst (IsNextOver nodes) c.in-GoesOn.is c.requires.next, c.requires.spots);
      counted = omega arith;
    }
