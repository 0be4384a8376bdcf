use Rattle.wy_vc_spec.proofs.answered_lemmas.Answers.{are_settled}
use Rattle.wy_vc_spec.proofs.answered.preconditions_within_turns_are_answered.Goals as goal

pub returns : goal.returns
returns c = record { settled = are_settled }
