use Rattle.wy_vc_operations.proofs.SlotLemmas.{put_taken_back}
use Rattle.wy_vc_operations.proofs.slots.put_back.Goals as goal

pub returns : goal.returns
returns c = record {
  value = λ before t was slot count.
      put_taken_back before c.args.vars.now.items c.set_slot.new.vars.items c.truncate.new.self.items c.args.variable t c.args.count c.args.slot was slot count c.set_slot.ensures.value c.truncate.ensures.items;
}
