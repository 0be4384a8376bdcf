use Rattle.std.proofs.Common.{◌∷◌, map}
use Rattle.wy_search_bounds.proofs.KnownLemmas.{on_ok_anyway}
use Rattle.wy_term.specs.Nodes.{tree_at}
use Rattle.wy_term.specs.Condition.{condition_of}
use Rattle.wy_search_facts.specs.wy_search_spec.Tree as tree
use Rattle.wy_search_facts.specs.Seen.{seen_spot}
use Rattle.wy_search.proofs.SpotLemmas.{spots_stay, are_spots_stay}
use Rattle.wy_search.proofs.WalkLemmas.{leads_by, turn_follows, turn_spent}
use Rattle.wy_search.proofs.walk.turn_at.Goals as goal

pub returns-then-leaves-budget-clause-value : goal.returns-then-leaves-budget-clause-value
returns-then-leaves-budget-clause-value c =
    let at = tree_at c.args.terms.now in
    turn_spent (condition_of c.args.terms.now c.args.cond.now).types c.args.budget c.args.leaves (seen_spot at c.args.spot) (map (seen_spot at) c.args.spots.items) c.if-leaves-budget.true

pub behind-requires-clause-spots : goal.behind-requires-clause-spots
behind-requires-clause-spots c = are_spots_stay c.args.terms.now c.what_follows.new.terms c.args.spots.items c.in_ok-next.ensures.stays c.requires.spots

pub returns-clause-value : goal.returns-clause-value
returns-clause-value c =
    let old = c.args.terms.now in
    let now = c.what_follows.new.terms in
    let types = (condition_of old c.args.cond.now).types in
    let p = seen_spot (tree_at old) c.args.spot in
    let rest = map (seen_spot (tree_at old)) c.args.spots.items in
    let left = map (seen_spot (tree_at now)) c.args.spots.items in
    leads_by c.behind.result (tree_at now) (tree.follows (tree.next types p) c.args.leaves p left) (tree.one_turn types c.args.budget c.args.leaves (p ∷ rest))
    (turn_follows types c.args.budget c.args.leaves p rest left c.if-leaves-budget.false (spots_stay old now c.args.spots.items c.in_ok-next.ensures.stays c.requires.spots))
    (c.behind.ensures.value p (tree.next types p) c.in_ok-next.ensures.value)

pub returns-clause-known : goal.returns-clause-known
returns-clause-known c = on_ok_anyway _ c.behind.result c.in_ok-next.ensures.known
