use Rattle.std.proofs.Common.{◌≡◌, [], subst, rules}
use Rattle.wy_term.specs.Nodes.{tree_at}
use Rattle.wy_term.specs.Condition.{condition_of}
use Rattle.wy_search.specs.Walks.{AreSpots}
use Rattle.wy_search.proofs.WalkLemmas.{turn_found, turn_all}
use Rattle.wy_search.proofs.walk.turn.Goals as goal

pub returns-in-None-clause-value : goal.returns-in-None-clause-value
returns-in-None-clause-value c =
    let none : c.args.walk.spots.items ≡ [] = search rules in
    turn_found (condition_of c.args.terms.now c.args.cond.now).types c.args.budget c.args.walk.leaves (tree_at c.args.terms.now) c.args.walk.spots.items none

pub turn_at-requires-clause-spots : goal.turn_at-requires-clause-spots
turn_at-requires-clause-spots c = (subst (AreSpots c.args.terms.now) c.in-Some.ensures.items c.requires.walk.spots).1

pub turn_at-requires-clause-spot : goal.turn_at-requires-clause-spot
turn_at-requires-clause-spot c = (subst (AreSpots c.args.terms.now) c.in-Some.ensures.items c.requires.walk.spots).0

pub returns-in-Some-clause-value : goal.returns-in-Some-clause-value
returns-in-Some-clause-value c =
    turn_all c.turn_at.result (condition_of c.args.terms.now c.args.cond.now).types c.args.budget c.args.walk.leaves (tree_at c.args.terms.now) (tree_at c.turn_at.new.terms) c.in-Some.spot c.args.walk.spots.items c.pop_front.new.self.items c.in-Some.ensures.items c.turn_at.ensures.value
