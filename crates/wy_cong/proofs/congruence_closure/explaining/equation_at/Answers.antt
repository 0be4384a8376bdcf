use Rattle.std.proofs.Common.{sym}
use Rattle.wy_cong.proofs.congruence_closure_lemmas.ChosenLemmas.{equation_found, equation_lost}
use Rattle.wy_cong.proofs.congruence_closure.explaining.equation_at.Goals as goal

pub returns-in-Some : goal.returns-in-Some
returns-in-Some c = record { value = equation_found c.args.equations.now c.args.k c.in-Some.e.now c.in-Some.ensures }

pub returns-in-None : goal.returns-in-None
returns-in-None c = record { value = equation_lost c.args.equations.now c.args.k (sym c.in-None.ensures) }
