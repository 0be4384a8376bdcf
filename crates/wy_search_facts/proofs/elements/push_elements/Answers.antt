use Rattle.std.proofs.Common.{◌∙◌, ◌≡◌, ◌≤◌, [], ◌∷◌, length, refl, rules, ap, List}
use Rattle.wy_facts.proofs.StepLemmas.{stays_on}
use Rattle.wy_facts.specs.Seen.{terms_at}
use Rattle.wy_cong.specs.wy_check_spec.judge.Node.{Node, with_formulas}
use Rattle.wy_check_nodes.proofs.SharedLemmas.{end_led, step_led}
use Rattle.wy_cong.specs.wy_search_spec.Expansion.{read_from, with_all_elements, with_elements}
use Rattle.wy_check_splits.proofs.SharedLemmas.{formula_kept, within_now}
use Rattle.wy_search_facts.proofs.AddingLemmas.{types_up}
use Rattle.wy_search_facts.proofs.elements.push_elements.Goals as goal
use Rattle.wy_term.specs.Nodes.{tree_at}
use Rattle.wy_term.specs.Term.{Term}

pub push_read-requires-clause-term : goal.push_read-requires-clause-term
push_read-requires-clause-term c = within_now c.args.terms.now c.loop-i.terms c.args.found.now.pending.keys c.loop-i.i c.pending_at-t.result c.loop-i.invariant.stays c.requires.found.pending c.pending_at-t.ensures

pub push_read-requires-clause-types : goal.push_read-requires-clause-types
push_read-requires-clause-types c = types_up c.args.terms.now c.loop-i.terms c.args.cond.now c.loop-i.invariant.stays c.requires.types

pub loop-i-preserved : goal.loop-i-preserved
loop-i-preserved c =
    let old = c.args.terms.now in
    let now = c.loop-i.terms in
    let stays = c.loop-i.invariant.stays in
    let keys = c.args.found.now.pending.keys in
    let p = c.pending_at-t.result in
    let tree = formula_kept old now keys c.loop-i.i p stays c.requires.found.pending c.pending_at-t.ensures in
    record {
      leads = λ start.
          step_led (λ (node : Node) (ts : List Term). with_all_elements node ts) (λ (node : Node) (t : Term). with_elements node t 0 (read_from t)) (λ node t ts. refl) (tree_at old) keys c.loop-i.i p _ _ _ c.pending_at-t.ensures
          (c.in_ok-push_read.ensures.value.value start ∙ ap (λ (t : Term). with_elements (with_formulas start (terms_at now c.loop-i.facts.items)) t 0 (read_from t)) tree)
          (c.loop-i.invariant.leads start);
      below = c.in_ok-push_read.ensures.value.below;
      stays = stays_on old now c.push_read.new.terms stays c.in_ok-push_read.ensures.stays;
    }

pub returns-clause-value : goal.returns-clause-value
returns-clause-value c =
    let le : length c.args.found.now.pending.keys ≤ c.loop-i.i = search rules in
    record {
      value = λ start. end_led (λ (node : Node) (ts : List Term). with_all_elements node ts) (λ node. refl) (tree_at c.args.terms.now) c.args.found.now.pending.keys c.loop-i.i _ _ le (c.loop-i.invariant.leads start);
      below = c.loop-i.invariant.below;
    }
