use Rattle.wy_sound.proofs.typing_lemmas.TypeLemmas.{variables_typed}
use Rattle.wy_sound.proofs.typing.variables_have_types.Goals as goal

pub returns : goal.returns
returns c = record { types = variables_typed }
