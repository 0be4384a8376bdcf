use Rattle.std.proofs.Common.{sym}
use Rattle.wy_vc_body.proofs.PathLemmas.{known_none, known_some}
use Rattle.wy_vc_body.proofs.paths.is_known.Goals as goal

pub returns-in-None : goal.returns-in-None
returns-in-None c = record { value = λ nodes. known_none nodes c.args.vars.now c.args.x (sym c.in-None.ensures.value) }

pub returns-in-Some : goal.returns-in-Some
returns-in-Some c = record { value = λ nodes. known_some nodes c.args.vars.now c.args.x _ (sym c.in-Some.ensures.value) }
