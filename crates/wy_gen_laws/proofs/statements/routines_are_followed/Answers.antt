use Rattle.wy_gen_laws.proofs.statements_lemmas.RoutineLemmas.{routines_followed}
use Rattle.wy_gen_laws.proofs.statements.routines_are_followed.Goals as goal

pub returns : goal.returns
returns c = record { followed = routines_followed }
