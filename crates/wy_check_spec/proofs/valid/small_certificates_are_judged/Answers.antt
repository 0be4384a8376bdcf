use Rattle.wy_check_spec.proofs.valid_lemmas.ExamplesHold.{examples_hold}
use Rattle.wy_check_spec.proofs.valid.small_certificates_are_judged.Goals as goal

pub returns : goal.returns
returns c = record { rows = examples_hold }
