use Rattle.wy_sound_kinds.proofs.KindLemmas.{answers_are}
use Rattle.wy_sound_kinds.proofs.law.answers_have_kinds.Goals as goal

pub returns : goal.returns
returns c = record { kinds = answers_are }
