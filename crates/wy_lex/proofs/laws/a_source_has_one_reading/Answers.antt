use Rattle.wy_lex.proofs.Refusals.{one_reading}
use Rattle.wy_lex.proofs.laws.a_source_has_one_reading.Goals as goal

pub returns : goal.returns
returns c = one_reading
