use Rattle.wy_vc_terms.proofs.MadeLemmas.{slots_none, slots_some}
use Rattle.wy_vc_terms.proofs.types.slots_of.Goals as goal

pub returns-in-None : goal.returns-in-None
returns-in-None c = record { made = λ ns t at. slots_none ns t c.args.variable c.new-vars.result.items c.in-None.is c.new-vars.ensures.items }

pub returns-in_ok-put-in-Some : goal.returns-in_ok-put-in-Some
returns-in_ok-put-in-Some c = record { made = λ ns t at. slots_some ns t c.args.variable c.in-Some.x c.args.v c.new-vars.result.items c.put.new.vars.items c.in-Some.is c.new-vars.ensures.items c.in_ok-put-in-Some.ensures.value at }
