use Rattle.std.proofs.Common.{◌∙◌, None, arith}
use Rattle.wy_vc_operations.proofs.SlotLemmas.{slot_or}
use Rattle.wy_vc_operations.proofs.slots.slot_at.Goals as goal

pub returns-in-None : goal.returns-in-None
returns-in-None c = record { value = c.in-None.ensures.lookup.4 (omega arith) None ∙ slot_or c.args.vars.now c.args.variable }

pub returns-in-Some : goal.returns-in-Some
returns-in-Some c = record { value = c.in-Some.ensures.lookup.4 (omega arith) None ∙ slot_or c.args.vars.now c.args.variable }
