use Rattle.std.proofs.Common.{List, [], ◌∷◌, map, refl, subst}
use Rattle.wy_facts.proofs.SharedLemmas.{types_stay}
use Rattle.wy_search_facts.proofs.AddingLemmas.{types_up}
use Rattle.wy_term.specs.Nodes.{tree_at}
use Rattle.wy_term.specs.Condition.{Entry, condition_of}
use Rattle.wy_facts.proofs.StepLemmas.{stays_on}
use Rattle.wy_search_facts.specs.wy_search_spec.Tree as tree
use Rattle.wy_search_facts.specs.Seen.{seen_spot}
use Rattle.wy_search.specs.Walks.{Comes, IsTurnedOver, Leads}
use Rattle.wy_search.proofs.WalkLemmas.{comes_by, reach_first}
use Rattle.wy_search.proofs.walk.searched.Goals as goal

pub loop-turn-init : goal.loop-turn-init
loop-turn-init c =
    let cond = condition_of c.args.terms.now c.args.cond.now in
    record {
      comes = comes_by cond c.args.budget 0 (tree.first_spot cond ∷ []) (tree_at c.begin.new.terms) c.in_ok-turned.turned (reach_first cond c.args.budget 0 (tree.first_spot cond ∷ []) refl refl) c.in_ok-turned.ensures.value;
      over = c.in_ok-turned.ensures.walk;
      forms = c.in_ok-turned.ensures.forms;
      front = c.in_ok-turned.ensures.front;
      stays = c.in_ok-turned.ensures.stays;
    }

pub turn-requires-clause-types : goal.turn-requires-clause-types
turn-requires-clause-types c = types_up c.args.terms.now c.loop-turn.terms c.args.cond.now c.loop-turn.invariant.stays c.requires.types

pub turn-requires-clause-walk : goal.turn-requires-clause-walk
turn-requires-clause-walk c = subst (IsTurnedOver c.loop-turn.terms c.args.budget) c.in-GoesOn.is c.loop-turn.invariant.over

pub returns-in-Ends-clause-verdict : goal.returns-in-Ends-clause-verdict
returns-in-Ends-clause-verdict c = subst (Comes (condition_of c.args.terms.now c.args.cond.now) c.args.budget (tree_at c.loop-turn.terms)) c.in-Ends.is c.loop-turn.invariant.comes

pub returns-in-Ends-clause-within : goal.returns-in-Ends-clause-within
returns-in-Ends-clause-within c = subst (IsTurnedOver c.loop-turn.terms c.args.budget) c.in-Ends.is c.loop-turn.invariant.over

pub loop-turn-preserved : goal.loop-turn-preserved
loop-turn-preserved c =
    let old = c.args.terms.now in
    let now = c.loop-turn.terms in
    let new = c.turn.new.terms in
    let cond = condition_of old c.args.cond.now in
    let walk = c.in-GoesOn.walk in
    let ps = map (seen_spot (tree_at now)) walk.spots.items in
    let same = types_stay old now c.args.cond.now c.loop-turn.invariant.stays c.requires.types in
    record {
      comes = comes_by cond c.args.budget walk.leaves ps (tree_at new) c.in_ok-turned-in-GoesOn.turned
          (subst (Comes cond c.args.budget (tree_at now)) c.in-GoesOn.is c.loop-turn.invariant.comes)
          (subst (λ (es : List Entry). Leads (tree.one_turn es c.args.budget walk.leaves ps) (tree_at new) c.in_ok-turned-in-GoesOn.turned) same c.in_ok-turned-in-GoesOn.ensures.value);
      over = c.in_ok-turned-in-GoesOn.ensures.walk;
      forms = c.in_ok-turned-in-GoesOn.ensures.known;
      front = c.loop-turn.invariant.front;
      stays = stays_on old now new c.loop-turn.invariant.stays c.in_ok-turned-in-GoesOn.ensures.stays;
    }
