use Rattle.std.proofs.Common.{refl, subst}
use Rattle.wy_facts.proofs.SharedLemmas.{types_stay}
use Rattle.wy_search_facts.proofs.AddingLemmas.{types_up}
use Rattle.wy_term.specs.Nodes.{tree_at}
use Rattle.wy_term.specs.Condition.{condition_of}
use Rattle.wy_facts.proofs.StepLemmas.{stays_on}
use Rattle.wy_search_bounds.specs.Seen.{seen_ending}
use Rattle.wy_check_nodes.specs.Seen.{seen_branch}
use Rattle.wy_search_facts.specs.Seen.{seen_spot}
use Rattle.wy_search.specs.Turns.{IsEnding}
use Rattle.wy_search.proofs.SpotLemmas.{seen_stays, spot_stays}
use Rattle.wy_search.proofs.TurnLemmas.{moved_next}
use Rattle.wy_search.proofs.turning.what_follows.Goals as goal

pub returns-in-None-clause-value : goal.returns-in-None-clause-value
returns-in-None-clause-value c =
    let at = tree_at c.args.terms.now in
    subst (IsEnding (seen_branch at c.args.spot.branch)) c.in-None.is c.in_ok-ending_of.ensures.value (condition_of c.args.terms.now c.args.cond.now).types (seen_spot at c.args.spot) refl

pub by_ending-requires-clause-types : goal.by_ending-requires-clause-types
by_ending-requires-clause-types c = types_up c.args.terms.now c.ending_of.new.terms c.args.cond.now c.in_ok-ending_of.ensures.stays c.requires.types

pub by_ending-requires-clause-spot : goal.by_ending-requires-clause-spot
by_ending-requires-clause-spot c = spot_stays c.args.terms.now c.ending_of.new.terms c.args.spot c.in_ok-ending_of.ensures.stays c.requires.spot

pub returns-in-Some-clause-value : goal.returns-in-Some-clause-value
returns-in-Some-clause-value c =
    let old = c.args.terms.now in
    let now = c.ending_of.new.terms in
    let types = (condition_of old c.args.cond.now).types in
    let p = seen_spot (tree_at old) c.args.spot in
    moved_next (tree_at c.by_ending.new.terms) types (condition_of now c.args.cond.now).types p (seen_spot (tree_at now) c.args.spot) (seen_ending c.in-Some.end) c.by_ending.result
    (types_stay old now c.args.cond.now c.in_ok-ending_of.ensures.stays c.requires.types)
    (seen_stays old now c.args.spot c.in_ok-ending_of.ensures.stays c.requires.spot)
    (subst (IsEnding (seen_branch (tree_at old) c.args.spot.branch)) c.in-Some.is c.in_ok-ending_of.ensures.value types p refl)
    c.by_ending.ensures.value

pub returns-in-Some-clause-stays : goal.returns-in-Some-clause-stays
returns-in-Some-clause-stays c = stays_on c.args.terms.now c.ending_of.new.terms c.by_ending.new.terms c.in_ok-ending_of.ensures.stays c.by_ending.ensures.stays
