use Rattle.wy_check_spec.proofs.judge_lemmas.TruthLemmas.{begins_truly}
use Rattle.wy_check_spec.proofs.judge.law.begins_truly.Goals as goal

pub returns : goal.returns
returns c = record { begins = begins_truly }
