use Rattle.wy_types.proofs.OneNumberLemmas as lemmas
use Rattle.wy_types.proofs.laws.one_type_a_number.Goals as goal

pub returns : goal.returns
returns c = lemmas.one_type_a_number
