use Rattle.std.proofs.Common.{◌≡◌, ℕ, drop, map}
use Rattle.wy_term.specs.Term.{Term}
use Rattle.wy_lin.specs.Seen.{seen_part, turned}
use Rattle.wy_vc_laws.specs.wy_check_spec.valid.Sums.{all_zero}
use Rattle.wy_check.proofs.multiples.all_zero.Given as goal

abbrev pub invariant-loop-i : goal.invariant-loop-i
invariant-loop-i l = (at : ℕ → Term) → all_zero (map (seen_part at) (drop l.i (map turned l.coefficients.entries))) ≡ all_zero (map (seen_part at) (map turned l.coefficients.entries))
