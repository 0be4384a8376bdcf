use Rattle.std.proofs.Common.{length}
use Rattle.wy_facts.specs.Seen.{AreBelow}
use Rattle.wy_facts.proofs.StepLemmas.{popped_below, popped_first, four_below}
use Rattle.wy_facts.proofs.building.with_four_members.Goals as goal

pub with_node-requires-clause-node : goal.with_node-requires-clause-node
with_node-requires-clause-node c =
    let n = length c.args.terms.now in
    let one : AreBelow n c.pop_front.new.self.items = popped_below n c.args.made.items c.pop_front.new.self.items c.in-Some.s c.requires.made c.in-Some.ensures.items in
    let two : AreBelow n c.pop_front-2.new.self.items = popped_below n c.pop_front.new.self.items c.pop_front-2.new.self.items c.in-Some-pop_front.t one c.in-Some-pop_front.ensures.items in
    let three : AreBelow n c.pop_front-3.new.self.items = popped_below n c.pop_front-2.new.self.items c.pop_front-3.new.self.items c.in-Some-pop_front-2.u two c.in-Some-pop_front-2.ensures.items in
    four_below n _ _ c.in_ok-from_slice.field-0.items c.in-Some.s c.in-Some-pop_front.t c.in-Some-pop_front-2.u c.in-Some-pop_front-3.v c.connective-node.ensures.value c.in_ok-from_slice.ensures.items (popped_first n c.args.made.items c.pop_front.new.self.items c.in-Some.s c.requires.made c.in-Some.ensures.items) (popped_first n c.pop_front.new.self.items c.pop_front-2.new.self.items c.in-Some-pop_front.t one c.in-Some-pop_front.ensures.items) (popped_first n c.pop_front-2.new.self.items c.pop_front-3.new.self.items c.in-Some-pop_front-2.u two c.in-Some-pop_front-2.ensures.items) (popped_first n c.pop_front-3.new.self.items c.pop_front-4.new.self.items c.in-Some-pop_front-3.v three c.in-Some-pop_front-3.ensures.items)

pub with_node-requires-clause-made : goal.with_node-requires-clause-made
with_node-requires-clause-made c =
    let n = length c.args.terms.now in
    let one : AreBelow n c.pop_front.new.self.items = popped_below n c.args.made.items c.pop_front.new.self.items c.in-Some.s c.requires.made c.in-Some.ensures.items in
    let two : AreBelow n c.pop_front-2.new.self.items = popped_below n c.pop_front.new.self.items c.pop_front-2.new.self.items c.in-Some-pop_front.t one c.in-Some-pop_front.ensures.items in
    let three : AreBelow n c.pop_front-3.new.self.items = popped_below n c.pop_front-2.new.self.items c.pop_front-3.new.self.items c.in-Some-pop_front-2.u two c.in-Some-pop_front-2.ensures.items in
    popped_below n c.pop_front-3.new.self.items c.pop_front-4.new.self.items c.in-Some-pop_front-3.v three c.in-Some-pop_front-3.ensures.items
