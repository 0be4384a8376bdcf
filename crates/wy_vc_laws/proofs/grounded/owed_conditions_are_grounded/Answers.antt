use Rattle.wy_vc_laws.proofs.grounded_lemmas.GroundedLemmas.{conditions_grounded}
use Rattle.wy_vc_laws.proofs.grounded.owed_conditions_are_grounded.Goals as goal

pub returns : goal.returns
returns c = record { grounded = conditions_grounded }
