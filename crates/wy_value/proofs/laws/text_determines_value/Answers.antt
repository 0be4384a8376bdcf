use Rattle.wy_value.proofs.LawLemmas.{text_determines}
use Rattle.wy_value.proofs.laws.text_determines_value.Goals as goal

pub returns : goal.returns
returns c = text_determines
