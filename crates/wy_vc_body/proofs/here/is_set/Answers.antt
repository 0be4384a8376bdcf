use Rattle.std.proofs.Common.{◌∙◌, false, arith}
use Rattle.wy_vc_body.proofs.MarkLemmas.{set_or}
use Rattle.wy_vc_body.proofs.here.is_set.Goals as goal

pub returns-in-None : goal.returns-in-None
returns-in-None c = record { value = c.in-None.ensures.lookup.4 (omega arith) false ∙ set_or c.args.set.now c.args.variable }

pub returns-in-Some : goal.returns-in-Some
returns-in-Some c = record { value = c.in-Some.ensures.lookup.4 (omega arith) false ∙ set_or c.args.set.now c.args.variable }
