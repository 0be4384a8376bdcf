use Rattle.wy_value.proofs.LawLemmas.{shown_is_read}
use Rattle.wy_value.proofs.laws.a_shown_value_is_read.Goals as goal

pub returns : goal.returns
returns c = shown_is_read
