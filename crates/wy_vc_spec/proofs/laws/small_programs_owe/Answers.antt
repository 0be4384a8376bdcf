use Rattle.wy_vc_spec.proofs.ExamplesHold.{programs_owe}
use Rattle.wy_vc_spec.proofs.laws.small_programs_owe.Goals as goal

pub returns : goal.returns
returns c = programs_owe
