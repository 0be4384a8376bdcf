use Rattle.wy_lex.proofs.ListsMade.{rises}
use Rattle.wy_lex.proofs.laws.places_rise.Goals as goal

pub returns : goal.returns
returns c = rises
