use Rattle.wy_sound.proofs.typing_lemmas.AliasLemmas.{numbered_types_have}
use Rattle.wy_sound.proofs.typing.numbered_types_have_variables.Goals as goal

pub returns : goal.returns
returns c = record { have = numbered_types_have }
