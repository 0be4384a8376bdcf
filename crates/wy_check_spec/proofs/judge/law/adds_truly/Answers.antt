use Rattle.wy_check_spec.proofs.judge_lemmas.TruthLemmas.{adds_truly}
use Rattle.wy_check_spec.proofs.judge.law.adds_truly.Goals as goal

pub returns : goal.returns
returns c = record { adds = adds_truly }
