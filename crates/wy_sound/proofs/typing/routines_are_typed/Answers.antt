use Rattle.wy_sound.proofs.typing_lemmas.RoutineLemmas.{routines_typed}
use Rattle.wy_sound.proofs.typing.routines_are_typed.Goals as goal

pub returns : goal.returns
returns c = record { typed = routines_typed }
