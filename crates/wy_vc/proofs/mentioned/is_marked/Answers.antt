use Rattle.std.proofs.Common.{◌∙◌, false, arith}
use Rattle.wy_vc.proofs.MarkLemmas.{index_marked}
use Rattle.wy_vc.proofs.mentioned.is_marked.Goals as goal

pub returns-in-None : goal.returns-in-None
returns-in-None c = record { value = c.in-None.ensures.lookup.4 (omega arith) false ∙ index_marked c.args.marks.now c.args.number }

pub returns-in-Some : goal.returns-in-Some
returns-in-Some c = record { value = c.in-Some.ensures.lookup.4 (omega arith) false ∙ index_marked c.args.marks.now c.args.number }
