use Rattle.wy_code_spec.proofs.numbered_lemmas.NumberLemmas.{stand_for_names}
use Rattle.wy_code_spec.proofs.numbered.numbers_stand_for_names.Goals as goal

pub returns : goal.returns
returns c = record { numbered = stand_for_names }
