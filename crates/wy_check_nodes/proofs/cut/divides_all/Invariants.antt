use Rattle.std.proofs.Common.{◌≡◌, ℕ, drop, map}
use Rattle.wy_check_spec.specs.wy_term.Term.{Term}
use Rattle.wy_check_spec.specs.wy_lin.Seen.{seen_part}
use Rattle.wy_check_spec.specs.valid.Sums.{divides_all}
use Rattle.wy_check_nodes.proofs.cut.divides_all.Given as goal

abbrev pub invariant-loop-part : goal.invariant-loop-part
invariant-loop-part l = (at : ℕ → Term) → divides_all l.d (map (seen_part at) (drop l.part-index l.parts)) ≡ divides_all l.d (map (seen_part at) l.parts)
