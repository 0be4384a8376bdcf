use Rattle.wy_vc_laws.proofs.folded_lemmas.OwedLemmas.{conditions_folded}
use Rattle.wy_vc_laws.proofs.folded.owed_conditions_are_folded.Goals as goal

pub returns : goal.returns
returns c = record { folded = conditions_folded }
