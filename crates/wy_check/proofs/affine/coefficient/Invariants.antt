use Rattle.std.proofs.Common.{◌≡◌, drop, map}
use Rattle.wy_term.specs.Nodes.{tree_at}
use Rattle.wy_term.specs.Same.{same_term}
use Rattle.wy_lin.specs.Linear.{coefficient}
use Rattle.wy_lin.specs.Seen.{seen_part}
use Rattle.wy_check.proofs.affine.coefficient.Given as goal

abbrev pub invariant-loop-part : goal.invariant-loop-part
invariant-loop-part l = coefficient same_term (map (seen_part (tree_at l.terms)) (drop l.part-index l.parts)) (tree_at l.terms l.v) ≡ coefficient same_term (map (seen_part (tree_at l.terms)) l.parts) (tree_at l.terms l.v)
