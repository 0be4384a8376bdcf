use Rattle.std.proofs.Common.{length}
use Rattle.wy_facts.proofs.StepLemmas.{popped_below}
use Rattle.wy_facts.proofs.building.with_unary.Goals as goal

pub with_node-requires-clause-made : goal.with_node-requires-clause-made
with_node-requires-clause-made c = popped_below (length c.args.terms.now) c.args.made.items c.pop_front.new.self.items c.in-Some.s c.requires.made c.in-Some.ensures.items
