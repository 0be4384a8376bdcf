use Rattle.std.proofs.Common.{◌≡◌, ◌≤◌, ◌∙◌, ℕ, List, [], length, ap, ap₂, refl, rules, subst, sym, arith}
use Rattle.wy_search_bounds.proofs.products.products_of.Goals as goal
use Rattle.wy_cong.proofs.wy_facts_proofs.StepLemmas.{stays_on, stays_same}
use Rattle.wy_cong.specs.wy_facts.Seen.{terms_at, AreBelow}
use Rattle.wy_cong.specs.wy_check_spec.judge.Node.{Node, with_formulas}
use Rattle.wy_cong.proofs.wy_check_nodes_proofs.SharedLemmas.{end_led, step_led}
use Rattle.wy_cong.specs.wy_check_nodes.Seen.{seen_branch}
use Rattle.wy_cong.specs.wy_search_spec.Expansion.{with_products_by, with_products_of}
use Rattle.wy_cong.proofs.wy_check_nodes_proofs.SumsBranchLemmas.{branch_stays, node_stays}
use Rattle.wy_check.proofs.wy_check_splits_proofs.SharedLemmas.{formula_kept, within_now}
use Rattle.wy_term.specs.Nodes.{tree_at}
use Rattle.wy_term.specs.Term.{Term}
use Rattle.wy_cong.specs.wy_check_spec.valid.Products.{as_product}

pub push_term-requires-clause-branch : goal.push_term-requires-clause-branch
push_term-requires-clause-branch c = branch_stays c.args.terms.now c.loop-i.terms c.args.branch.now c.loop-i.invariant.stays c.requires.branch

pub push_term-requires-clause-term : goal.push_term-requires-clause-term
push_term-requires-clause-term c = within_now c.args.terms.now c.loop-i.terms c.in_ok-found.found.pending.keys c.loop-i.i c.pending_at-p.result c.loop-i.invariant.stays c.in_ok-found.ensures.branch.pending c.pending_at-p.ensures

pub loop-i-init : goal.loop-i-init
loop-i-init c =
    let old = c.args.terms.now in
    let node = seen_branch (tree_at old) c.args.branch.now in
    let none : c.new-stated.result.items ≡ [] = search rules in
    record {
      leads = λ start.
          ap (λ (ks : List ℕ). with_products_by node (seen_branch (tree_at old) c.in_ok-found.found).pending (with_formulas start (terms_at old ks))) none
          ∙ ap (λ (ts : List Term). with_products_by node ts start) c.in_ok-found.ensures.value;
      below = subst (AreBelow (length old)) (sym none) (λ k d lt. absurd (omega (arith, lt)));
      known = c.requires.known;
      stays = stays_same old;
    }

pub loop-i-preserved : goal.loop-i-preserved
loop-i-preserved c =
    let old = c.args.terms.now in
    let now = c.loop-i.terms in
    let stays = c.loop-i.invariant.stays in
    let keys = c.in_ok-found.found.pending.keys in
    let p = c.pending_at-p.result in
    let node = seen_branch (tree_at old) c.args.branch.now in
    let is = node_stays old now c.args.branch.now stays c.requires.branch in
    let tree = formula_kept old now keys c.loop-i.i p stays c.in_ok-found.ensures.branch.pending c.pending_at-p.ensures in
    record {
      leads = λ start.
          step_led (λ (done : Node) (ts : List Term). with_products_by node ts done) (λ (done : Node) (t : Term). with_products_of node t (as_product t) done) (λ n t ts. refl) (tree_at old) keys c.loop-i.i p _ _ _ c.pending_at-p.ensures
          (c.in_ok-push_term.ensures.value.value start ∙ ap₂ (λ (n : Node) (t : Term). with_products_of n t (as_product t) (with_formulas start (terms_at now c.loop-i.stated.items))) is tree)
          (c.loop-i.invariant.leads start);
      below = c.in_ok-push_term.ensures.value.below;
      known = c.in_ok-push_term.ensures.known;
      stays = stays_on old now c.push_term.new.terms stays c.in_ok-push_term.ensures.stays;
    }

pub returns-clause-value : goal.returns-clause-value
returns-clause-value c =
    let old = c.args.terms.now in
    let node = seen_branch (tree_at old) c.args.branch.now in
    let le : length c.in_ok-found.found.pending.keys ≤ c.loop-i.i = search rules in
    end_led (λ (done : Node) (ts : List Term). with_products_by node ts done) (λ n. refl) (tree_at old) c.in_ok-found.found.pending.keys c.loop-i.i _ _ le (c.loop-i.invariant.leads node)
