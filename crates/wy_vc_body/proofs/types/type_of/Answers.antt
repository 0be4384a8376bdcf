use Rattle.wy_vc_body.proofs.TypeLemmas.{type_some, type_none, type_empty}
use Rattle.wy_vc_body.proofs.types.type_of.Goals as goal

pub returns-in-None : goal.returns-in-None
returns-in-None c = record { value = type_none c.args.types.now c.args.variable c.in-None.ensures }

pub returns-in-None-slot : goal.returns-in-None-slot
returns-in-None-slot c = record { value = type_empty c.args.types.now c.args.variable _ c.in-Some.ensures c.in-None-slot.is }

pub returns-in-Some-slot : goal.returns-in-Some-slot
returns-in-Some-slot c = record { value = type_some c.args.types.now c.args.variable _ _ _ c.in-Some.ensures c.in-Some-slot.is c.get.ensures.value }
