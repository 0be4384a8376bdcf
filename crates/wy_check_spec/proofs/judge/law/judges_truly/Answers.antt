use Rattle.wy_check_spec.proofs.judge_lemmas.TruthLemmas.{judges_truly}
use Rattle.wy_check_spec.proofs.judge.law.judges_truly.Goals as goal

pub returns : goal.returns
returns c = record { judges = judges_truly }
