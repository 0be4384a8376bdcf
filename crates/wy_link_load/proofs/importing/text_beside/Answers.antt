use Rattle.std.proofs.Common.{arith, rules}
use Rattle.wy_link_load.proofs.ImportLemmas.{cut_at}
use Rattle.wy_link_load.proofs.importing.text_beside.Goals as goal

pub returns-in-Some : goal.returns-in-Some
returns-in-Some c =
    let split = cut_at 47 c.args.file.now _ c.rsplit_once.ensures.cases (omega arith) in
    rw (← split) (grind rules)

pub returns-in-None : goal.returns-in-None
returns-in-None c =
    let split = cut_at 47 c.args.file.now _ c.rsplit_once.ensures.cases (omega arith) in
    rw (← split) (grind rules)
