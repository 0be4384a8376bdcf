use Rattle.std.proofs.Common.{◌≡◌, drop}
use Rattle.wy_cong.specs.congruence_closure.Found.{joined_by}
use Rattle.wy_cong.proofs.congruence_closure.closing.with_equations.Given as goal

abbrev pub invariant-loop-e : goal.invariant-loop-e
invariant-loop-e l = joined_by l.labels (drop l.e-index l.equations) ≡ joined_by l.fn.labels l.equations
