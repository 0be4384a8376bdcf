use Rattle.std.proofs.Common.{◌≤◌, ◌<◌, ℕ, None, length, refl, rules, sym, ap, subst}
use Rattle.wy_search_bounds.proofs.BoundLemmas.{at_old, best_end, best_more, count_seen}
use Rattle.wy_search_bounds.proofs.tightest.bound_of.Goals as goal
use Rattle.wy_search_bounds.specs.Bounds.{AreBounds}
use Rattle.wy_cong.proofs.wy_facts_proofs.StepLemmas.{stays_on, stays_same}
use Rattle.wy_cong.specs.wy_check_spec.judge.Node.{Node}
use Rattle.wy_cong.specs.wy_check_nodes.Seen.{seen_branch, seen_literal}
use Rattle.wy_lin.specs.Seen.{seen_form}
use Rattle.wy_cong.proofs.wy_check_nodes_proofs.SumsBranchLemmas.{branch_stays, node_stays}
use Rattle.wy_cong.proofs.wy_check_nodes_proofs.FormLemmas.{form_kept, form_up}
use Rattle.wy_term.specs.Nodes.{tree_at}

pub with_literal-requires-clause-branch : goal.with_literal-requires-clause-branch
with_literal-requires-clause-branch c = branch_stays c.args.terms.now c.loop-i.terms c.args.branch.now c.loop-i.invariant.stays c.requires.branch

pub with_literal-requires-clause-form : goal.with_literal-requires-clause-form
with_literal-requires-clause-form c = form_up (length c.args.terms.now) (length c.loop-i.terms) c.args.form.now c.loop-i.invariant.stays.grows c.requires.form

pub loop-i-init : goal.loop-i-init
loop-i-init c = record { best = (None, refl, refl); known = c.requires.known; stays = stays_same c.args.terms.now }

pub loop-i-preserved : goal.loop-i-preserved
loop-i-preserved c =
    let old = c.args.terms.now in
    let now = c.loop-i.terms in
    let stays = c.loop-i.invariant.stays in
    let at = tree_at old in
    let ls = (seen_branch at c.args.branch.now).literals in
    let f = seen_form at c.args.form.now in
    let given = c.loop-i.invariant.best.0 in
    let same = ap (λ (n : Node). n.literals) (node_stays old now c.args.branch.now stays c.requires.branch) in
    let form = form_kept old now c.args.form.now stays c.requires.form in
    let lt : c.loop-i.i < length c.args.branch.now.literals.keys = search rules in
    let within : c.loop-i.i < length ls = subst (λ (n : ℕ). c.loop-i.i < n) (sym (count_seen (seen_literal at) c.args.branch.now.literals.keys)) lt in
    let made = at_old c.args.below c.loop-i.i c.loop-i.best c.in_ok-best.best given _ ls _ f same form (c.in_ok-best.ensures.value given) c.loop-i.invariant.best.1 in
    record {
      best = (_, made, best_more ls c.loop-i.i f c.args.below given _ within c.loop-i.invariant.best.2);
      known = c.in_ok-best.ensures.known;
      stays = stays_on old now c.with_literal.new.terms stays c.in_ok-best.ensures.stays;
    }

pub returns-clause-value : goal.returns-clause-value
returns-clause-value c =
    let at = tree_at c.args.terms.now in
    let ls = (seen_branch at c.args.branch.now).literals in
    let f = seen_form at c.args.form.now in
    let best = c.loop-i.invariant.best in
    let le : length c.args.branch.now.literals.keys ≤ c.loop-i.i = search rules in
    let past : length ls ≤ c.loop-i.i = subst (λ (n : ℕ). n ≤ c.loop-i.i) (sym (count_seen (seen_literal at) c.args.branch.now.literals.keys)) le in
    subst (AreBounds ls f c.args.below c.loop-i.best) (best_end ls c.loop-i.i f c.args.below best.0 _ past best.2) best.1
