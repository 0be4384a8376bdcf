use Rattle.wy_lin_eliminate.proofs.TurnLemmas.{elimination-refutes}
use Rattle.wy_lin_eliminate.proofs.law.steps_refute.Goals as goal

pub returns : goal.returns
returns c = λ forms. elimination-refutes forms
