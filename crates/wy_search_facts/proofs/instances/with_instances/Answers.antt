use Rattle.std.proofs.Common.{◌≡◌, ◌≤◌, ◌<◌, ◌∙◌, ℕ, List, Bool, false, get_or, length, map, ap, ap₂, refl, rules, subst, sym, arith}
use Rattle.wy_facts.proofs.StepLemmas.{below_kept, stays_on, stays_same, terms_kept}
use Rattle.wy_facts.specs.Seen.{terms_at}
use Rattle.wy_search_facts.proofs.SpotLemmas.{instances_end, instances_step, over_here, over_up}
use Rattle.wy_search_facts.proofs.instances.with_instances.Goals as goal
use Rattle.wy_check_nodes.specs.Seen.{seen_branch, seen_literal, AreOver}
use Rattle.wy_cong.specs.wy_search_spec.Expansion.{with_instances, with_instances_by}
use Rattle.wy_term.specs.Nodes.{tree_at}
use Rattle.wy_term.specs.Term.{Term}
use Rattle.wy_cong.specs.wy_check_spec.valid.Ranges.{of_each}

pub with_instances_by-requires-clause-atom : goal.with_instances_by-requires-clause-atom
with_instances_by-requires-clause-atom c =
    let over = subst (AreOver (length c.args.terms.now)) (sym (c.deref-atom-items.ensures.value ∙ c.in_ok-literals.ensures)) c.requires.branch.literals in
    over_up (length c.args.terms.now) (length c.loop-atom.terms) c.deref-atom-items.result.now c.loop-atom.atom-index (0, false) c.loop-atom.invariant.stays.grows over c.loop-atom-test.true

pub with_instances_by-requires-clause-terms : goal.with_instances_by-requires-clause-terms
with_instances_by-requires-clause-terms c = below_kept c.args.terms.now c.loop-atom.terms c.args.all.now c.loop-atom.invariant.stays c.requires.terms

pub loop-atom-init : goal.loop-atom-init
loop-atom-init c =
    let at = tree_at c.args.terms.now in
    record {
      leads = ap (λ (ps : List (ℕ × Bool)). with_instances (seen_branch at c.args.branch.now) (map (seen_literal at) ps) (map at c.args.all.now)) (c.deref-atom-items.ensures.value ∙ c.in_ok-literals.ensures);
      branch = c.requires.branch;
      stays = stays_same c.args.terms.now;
    }

pub loop-atom-preserved : goal.loop-atom-preserved
loop-atom-preserved c =
    let old = c.args.terms.now in
    let now = c.loop-atom.terms in
    let stays = c.loop-atom.invariant.stays in
    let ps = c.deref-atom-items.result.now in
    let i = c.loop-atom.atom-index in
    let p = get_or ps i (0, false) in
    let over = subst (AreOver (length old)) (sym (c.deref-atom-items.ensures.value ∙ c.in_ok-literals.ensures)) c.requires.branch.literals in
    let tree = stays.trees p.0 (over_here (length old) ps i (0, false) over c.loop-atom-test.true) in
    let ts = terms_kept old now c.args.all.now stays c.requires.terms in
    record {
      leads =
          instances_step (tree_at old) ps (map (tree_at old) c.args.all.now) i (0, false) (seen_branch (tree_at now) c.loop-atom.branch) _ _ c.loop-atom-test.true
          (c.in_ok-with_instances_by.ensures.value ∙ ap₂ (λ (t : Term) (us : List Term). with_instances_by (seen_branch (tree_at now) c.loop-atom.branch) p.1 (of_each (record { atom = t; holds = p.1 })) us) tree ts)
          c.loop-atom.invariant.leads;
      branch = c.in_ok-with_instances_by.ensures.branch;
      stays = stays_on old now c.with_instances_by.new.terms stays c.in_ok-with_instances_by.ensures.stays;
    }

pub returns-clause-value : goal.returns-clause-value
returns-clause-value c =
    let le : length c.deref-atom-items.result.now ≤ c.loop-atom.atom-index = search rules in
    instances_end (tree_at c.args.terms.now) c.deref-atom-items.result.now (map (tree_at c.args.terms.now) c.args.all.now) c.loop-atom.atom-index _ _ le c.loop-atom.invariant.leads
