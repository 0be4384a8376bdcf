use Rattle.wy_sound.proofs.ReadingLemmas.{conditions_tell}
use Rattle.wy_sound.proofs.law.conditions_tell_members.Goals as goal

pub returns : goal.returns
returns c = record { tell = conditions_tell }
