use Rattle.wy_value.proofs.LawLemmas.{one_reading}
use Rattle.wy_value.proofs.laws.a_text_has_one_reading.Goals as goal

pub returns : goal.returns
returns c = one_reading
