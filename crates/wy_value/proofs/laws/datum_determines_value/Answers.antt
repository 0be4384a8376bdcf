use Rattle.wy_value.proofs.LawLemmas.{datum_determines}
use Rattle.wy_value.proofs.laws.datum_determines_value.Goals as goal

pub returns : goal.returns
returns c = datum_determines
