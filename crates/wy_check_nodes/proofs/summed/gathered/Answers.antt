use Rattle.std.proofs.Common.{◌≡◌, ◌+◌, ℕ, map, drop, length, get_or, Some, None, sym, ap, subst, ◌∙◌}
use Rattle.std.specs.Prelude.{option_map, IfSome}
use Rattle.std.proofs.lemmas.List.{drop_more}
use Rattle.wy_check_spec.specs.wy_term.Nodes.{tree_at}
use Rattle.wy_check_spec.specs.judge.Node.{Node}
use Rattle.wy_check_spec.proofs.wy_facts_proofs.StepLemmas.{stays_on}
use Rattle.wy_check_nodes.specs.Seen.{seen_branch}
use Rattle.wy_check_spec.specs.wy_lin.Seen.{IsOver, linear_form, seen_form}
use Rattle.wy_check_nodes.specs.Gathered.{weighed, prefixed, gathered}
use Rattle.wy_check_nodes.proofs.SumsBranchLemmas.{branch_stays, node_stays}
use Rattle.wy_check_nodes.proofs.FormLemmas.{forms_pushed, pushed_over}
use Rattle.wy_check_nodes.proofs.GatheredLemmas.{gathered_step, gathered_stop}
use Rattle.wy_check_nodes.proofs.summed.gathered.Goals as goal

pub weighed-requires : goal.weighed-requires
weighed-requires c = branch_stays c.args.terms.now c.loop-m.terms c.args.branch.now c.loop-m.invariant.stays c.requires

pub returns-in-None-clause-value : goal.returns-in-None-clause-value
returns-in-None-clause-value c =
    let ls = (seen_branch (tree_at c.args.terms.now) c.args.branch.now).literals in
    let p : ℕ × ℕ = get_or c.args.pairs.now c.loop-m.m-index (0, 0) in
    let same = node_stays c.args.terms.now c.loop-m.terms c.args.branch.now c.loop-m.invariant.stays c.requires in
    let one : weighed ls p.0 p.1 ≡ None = sym (ap (λ (node : Node). weighed node.literals p.0 p.1) same) ∙ (sym c.in_ok-made.ensures.value ∙ ap (option_map (seen_form (tree_at c.weighed.new.terms))) c.in-None.is) in
    gathered_stop ls (map (seen_form (tree_at c.loop-m.terms)) c.loop-m.forms.items) (drop c.loop-m.m-index c.args.pairs.now) (drop (c.loop-m.m-index + 1) c.args.pairs.now) p (gathered ls c.args.pairs.now) (drop_more c.args.pairs.now c.loop-m.m-index (0, 0) c.loop-m-test.true) one c.loop-m.invariant.so_far

pub loop-m-preserved : goal.loop-m-preserved
loop-m-preserved c =
    let ls = (seen_branch (tree_at c.args.terms.now) c.args.branch.now).literals in
    let p : ℕ × ℕ = get_or c.args.pairs.now c.loop-m.m-index (0, 0) in
    let made = map (seen_form (tree_at c.loop-m.terms)) c.loop-m.forms.items in
    let g = seen_form (tree_at c.weighed.new.terms) c.in-Some.made in
    let same = node_stays c.args.terms.now c.loop-m.terms c.args.branch.now c.loop-m.invariant.stays c.requires in
    let one : weighed ls p.0 p.1 ≡ Some g = sym (ap (λ (node : Node). weighed node.literals p.0 p.1) same) ∙ (sym c.in_ok-made.ensures.value ∙ ap (option_map (seen_form (tree_at c.weighed.new.terms))) c.in-Some.is) in
    let step = gathered_step ls made (drop c.loop-m.m-index c.args.pairs.now) (drop (c.loop-m.m-index + 1) c.args.pairs.now) p g (gathered ls c.args.pairs.now) (drop_more c.args.pairs.now c.loop-m.m-index (0, 0) c.loop-m-test.true) one c.loop-m.invariant.so_far in
    let pushed = forms_pushed c.loop-m.terms c.weighed.new.terms c.loop-m.forms.items c.push.new.self.items c.in-Some.made c.in_ok-made.ensures.stays c.loop-m.invariant.over c.in_ok-push-in-Some.ensures.items in
    record {
      so_far = ap (λ fs. prefixed fs (gathered ls (drop (c.loop-m.m-index + 1) c.args.pairs.now))) pushed ∙ step;
      over = pushed_over c.loop-m.terms c.weighed.new.terms c.loop-m.forms.items c.push.new.self.items c.in-Some.made c.in_ok-made.ensures.stays c.loop-m.invariant.over c.in_ok-push-in-Some.ensures.items (subst (λ o. IfSome o (λ h. IsOver (length c.weighed.new.terms) (linear_form h))) c.in-Some.is c.in_ok-made.ensures.within);
      stays = stays_on c.args.terms.now c.loop-m.terms c.weighed.new.terms c.loop-m.invariant.stays c.in_ok-made.ensures.stays;
    }
