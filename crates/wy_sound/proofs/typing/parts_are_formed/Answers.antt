use Rattle.wy_sound.proofs.typing_lemmas.PartLemmas.{parts_formed}
use Rattle.wy_sound.proofs.typing.parts_are_formed.Goals as goal

pub returns : goal.returns
returns c = record { formed = parts_formed }
