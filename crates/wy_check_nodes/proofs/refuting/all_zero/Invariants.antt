use Rattle.std.proofs.Common.{◌≡◌, ℕ, drop, map}
use Rattle.wy_check_spec.specs.wy_term.Term.{Term}
use Rattle.wy_check_spec.specs.wy_lin.Seen.{seen_part}
use Rattle.wy_check_spec.specs.valid.Sums.{all_zero}
use Rattle.wy_check_nodes.proofs.refuting.all_zero.Given as goal

abbrev pub invariant-loop-part : goal.invariant-loop-part
invariant-loop-part l = (at : ℕ → Term) → all_zero (map (seen_part at) (drop l.part-index l.parts)) ≡ all_zero (map (seen_part at) l.parts)
