use Rattle.wy_sound_statements.proofs.steps_lemmas.StepLemmas.{results_leave}
use Rattle.wy_sound_statements.proofs.steps.results_leave.Goals as goal

pub returns : goal.returns
returns c = record { leave = results_leave }
