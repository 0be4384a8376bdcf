use Rattle.std.proofs.Common.{length}
use Rattle.wy_facts.specs.Seen.{AreBelow}
use Rattle.wy_facts.proofs.StepLemmas.{popped_below}
use Rattle.wy_facts.proofs.building.with_binary.Goals as goal

pub with_node-requires-clause-made : goal.with_node-requires-clause-made
with_node-requires-clause-made c =
    let n = length c.args.terms.now in
    let one : AreBelow n c.pop_front.new.self.items = popped_below n c.args.made.items c.pop_front.new.self.items c.in-Some.s c.requires.made c.in-Some.ensures.items in
    popped_below n c.pop_front.new.self.items c.pop_front-2.new.self.items c.in-Some-pop_front.t one c.in-Some-pop_front.ensures.items
