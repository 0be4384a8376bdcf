use Rattle.wy_vc_spec.proofs.answered_lemmas.Answers.{are_answered}
use Rattle.wy_vc_spec.proofs.answered.preconditions_are_answered.Goals as goal

pub returns : goal.returns
returns c = record { answered = are_answered }
