use Rattle.std.proofs.Common.{length}
use Rattle.wy_check_nodes.proofs.wy_facts_proofs.StepLemmas.{stays_on}
use Rattle.wy_check_splits.proofs.RangeLemmas.{range_up, instance_if}
use Rattle.wy_check_splits.proofs.instance.instance_at.Goals as goal

pub body_at-requires-clause-range : goal.body_at-requires-clause-range
body_at-requires-clause-range c = range_up (length c.args.terms.now) (length c.at_most.new.terms) c.args.r.now (stays_on c.args.terms.now c.above.new.terms c.at_most.new.terms c.in_ok-below.ensures.stays c.in_ok-behind.ensures.stays).grows c.requires.range

pub returns-clause-value : goal.returns-clause-value
returns-clause-value c = instance_if c.one_of_three.result c.args.terms.now c.above.new.terms c.at_most.new.terms c.body_at.new.terms c.one_of_three.new.terms c.args.r.now c.args.holds c.args.t c.in_ok-below.below c.in_ok-behind.behind c.in_ok-body.body c.in_ok-below.ensures.stays c.in_ok-behind.ensures.stays c.in_ok-body.ensures.stays c.requires.range c.requires.term c.in_ok-below.ensures.within c.in_ok-below.ensures.value c.in_ok-behind.ensures.within c.in_ok-behind.ensures.value c.in_ok-body.ensures.value c.one_of_three.ensures.value
