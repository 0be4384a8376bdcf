use Rattle.wy_sound_types.proofs.RankLemmas.{are_right}
use Rattle.wy_sound_types.proofs.law.tests_are_right.Goals as goal

pub returns : goal.returns
returns c = record { right = are_right }
