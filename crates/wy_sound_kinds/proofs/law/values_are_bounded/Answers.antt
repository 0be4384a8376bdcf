use Rattle.wy_sound_kinds.proofs.DatumLemmas.{values_are_bounded}
use Rattle.wy_sound_kinds.proofs.law.values_are_bounded.Goals as goal

pub returns : goal.returns
returns c = record { bounded = values_are_bounded }
