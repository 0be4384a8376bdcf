use Rattle.wy_cache.proofs.TellingLemmas.{texts_tell}
use Rattle.wy_cache.proofs.law.texts_tell_conditions.Goals as goal

pub returns : goal.returns
returns c = record { tell = texts_tell }
