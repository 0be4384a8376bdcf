use Rattle.std.proofs.Common.{◌≡◌, ◌≤◌, ◌<◌, ◌∙◌, get_or, length, ap, ap₂, rules, arith}
use Rattle.wy_facts.proofs.StepLemmas.{stays_on}
use Rattle.wy_search_facts.proofs.SpotLemmas.{instance_end, instance_step}
use Rattle.wy_search_facts.proofs.instances.with_instances_of.Goals as goal
use Rattle.wy_cong.specs.wy_check_spec.judge.Node.{added}
use Rattle.wy_check_nodes.specs.Seen.{seen_branch}
use Rattle.wy_check_splits.proofs.RangeLemmas.{range_kept, range_up}
use Rattle.wy_check_splits.specs.Seen.{seen_range}
use Rattle.wy_term.specs.Nodes.{tree_at}
use Rattle.wy_term.specs.Term.{Term}
use Rattle.wy_cong.specs.wy_check_spec.valid.Ranges.{Range, instance_at}

pub with_instance-requires-clause-range : goal.with_instance-requires-clause-range
with_instance-requires-clause-range c = range_up (length c.args.terms.now) (length c.loop-t.terms) c.args.r.now c.loop-t.invariant.stays.grows c.requires.range

pub with_instance-requires-clause-term : goal.with_instance-requires-clause-term
with_instance-requires-clause-term c = let lt = c.requires.terms c.loop-t.t-index 0 c.loop-t-test.true in let le = c.loop-t.invariant.stays.grows in omega (arith, lt, le)

pub loop-t-preserved : goal.loop-t-preserved
loop-t-preserved c =
    let old = c.args.terms.now in
    let now = c.loop-t.terms in
    let stays = c.loop-t.invariant.stays in
    let k = get_or c.args.all.now c.loop-t.t-index 0 in
    let range = range_kept old now c.args.r.now stays c.requires.range in
    let tree = stays.trees k (c.requires.terms c.loop-t.t-index 0 c.loop-t-test.true) in
    record {
      leads =
          instance_step (tree_at old) c.args.holds (seen_range (tree_at old) c.args.r.now) c.args.all.now c.loop-t.t-index 0 (seen_branch (tree_at now) c.loop-t.branch) _ _ c.loop-t-test.true
          (c.in_ok-with_instance.ensures.value ∙ ap₂ (λ (r : Range) (t : Term). added (seen_branch (tree_at now) c.loop-t.branch) (instance_at c.args.holds r t)) range tree)
          c.loop-t.invariant.leads;
      branch = c.in_ok-with_instance.ensures.branch;
      stays = stays_on old now c.with_instance.new.terms stays c.in_ok-with_instance.ensures.stays;
    }

pub returns-clause-value : goal.returns-clause-value
returns-clause-value c =
    let le : length c.args.all.now ≤ c.loop-t.t-index = search rules in
    instance_end (tree_at c.args.terms.now) c.args.holds (seen_range (tree_at c.args.terms.now) c.args.r.now) c.args.all.now c.loop-t.t-index _ _ le c.loop-t.invariant.leads
