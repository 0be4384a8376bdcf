use Rattle.std.proofs.Common.{◌≡◌, ◌≤◌, ◌<◌, ◌∙◌, ℕ, List, Bool, false, get_or, length, map, ap, ap₂, refl, rules, subst, sym, arith}
use Rattle.wy_facts.proofs.StepLemmas.{stays_on, stays_same}
use Rattle.wy_search_facts.proofs.SpotLemmas.{over_here, over_up, witnesses_end, witnesses_step}
use Rattle.wy_search_facts.proofs.witnesses.with_witnesses.Goals as goal
use Rattle.wy_search_facts.specs.Seen.{seen_spot}
use Rattle.wy_cong.specs.wy_check_spec.judge.Node.{Literal}
use Rattle.wy_check_nodes.specs.Seen.{seen_literal, AreOver}
use Rattle.wy_cong.specs.wy_search_spec.Expansion.{with_witness, with_witnesses}
use Rattle.wy_term.specs.Nodes.{tree_at}
use Rattle.wy_term.specs.Term.{Term}
use Rattle.wy_cong.specs.wy_check_spec.valid.Ranges.{of_one}

pub with_witness-requires-clause-atom : goal.with_witness-requires-clause-atom
with_witness-requires-clause-atom c =
    let over = subst (AreOver (length c.args.terms.now)) (sym (c.deref-atom-items.ensures.value ∙ c.in_ok-literals.ensures)) c.requires.branch.literals in
    over_up (length c.args.terms.now) (length c.loop-atom.terms) c.deref-atom-items.result.now c.loop-atom.atom-index (0, false) c.loop-atom.invariant.stays.grows over c.loop-atom-test.true

pub loop-atom-init : goal.loop-atom-init
loop-atom-init c =
    let at = tree_at c.args.terms.now in
    record {
      leads = ap (λ (ps : List (ℕ × Bool)). with_witnesses (seen_spot at c.args.spot) (map (seen_literal at) ps)) (c.deref-atom-items.ensures.value ∙ c.in_ok-literals.ensures);
      spot = c.requires;
      stays = stays_same c.args.terms.now;
    }

pub loop-atom-preserved : goal.loop-atom-preserved
loop-atom-preserved c =
    let old = c.args.terms.now in
    let now = c.loop-atom.terms in
    let stays = c.loop-atom.invariant.stays in
    let ps = c.deref-atom-items.result.now in
    let i = c.loop-atom.atom-index in
    let p = get_or ps i (0, false) in
    let over = subst (AreOver (length old)) (sym (c.deref-atom-items.ensures.value ∙ c.in_ok-literals.ensures)) c.requires.branch.literals in
    let tree = stays.trees p.0 (over_here (length old) ps i (0, false) over c.loop-atom-test.true) in
    record {
      leads =
          witnesses_step (tree_at old) ps i (0, false) (seen_spot (tree_at now) c.loop-atom.spot) _ _ c.loop-atom-test.true
          (c.in_ok-spot.ensures.value ∙ ap (λ (t : Term). with_witness (seen_spot (tree_at now) c.loop-atom.spot) (record { atom = t; holds = p.1 }) (of_one (record { atom = t; holds = p.1 }))) tree)
          c.loop-atom.invariant.leads;
      spot = c.in_ok-spot.ensures.spot;
      stays = stays_on old now c.with_witness.new.terms stays c.in_ok-spot.ensures.stays;
    }

pub returns-clause-value : goal.returns-clause-value
returns-clause-value c =
    let le : length c.deref-atom-items.result.now ≤ c.loop-atom.atom-index = search rules in
    witnesses_end (tree_at c.args.terms.now) c.deref-atom-items.result.now c.loop-atom.atom-index _ _ le c.loop-atom.invariant.leads
