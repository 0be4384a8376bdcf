use Rattle.wy_sound_types.proofs.RankLemmas.{checks_are_right}
use Rattle.wy_sound_types.proofs.law.checks_are_right.Goals as goal

pub returns : goal.returns
returns c = record { right = checks_are_right }
