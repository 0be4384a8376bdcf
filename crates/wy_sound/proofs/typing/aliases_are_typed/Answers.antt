use Rattle.wy_sound.proofs.typing_lemmas.AliasLemmas.{aliases_typed}
use Rattle.wy_sound.proofs.typing.aliases_are_typed.Goals as goal

pub returns : goal.returns
returns c = record { typed = aliases_typed }
