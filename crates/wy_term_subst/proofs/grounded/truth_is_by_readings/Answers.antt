use Rattle.wy_term_subst.proofs.grounded_lemmas.TruthLemmas.{always_by_readings, by_readings_always}
use Rattle.wy_term_subst.proofs.grounded.truth_is_by_readings.Goals as goal

pub returns : goal.returns
returns c = record { always = always_by_readings; by_readings = by_readings_always }
