use Rattle.std.proofs.Common.{◌≡◌, ℕ, drop, map}
use Rattle.wy_term.specs.Term.{Term}
use Rattle.wy_lin.specs.Seen.{seen_part}
use Rattle.wy_vc_laws.specs.wy_check_spec.valid.Products.{leading}
use Rattle.wy_check.proofs.affine.leading.Given as goal

abbrev pub invariant-loop-part : goal.invariant-loop-part
invariant-loop-part l = (at : ℕ → Term) → leading (map (seen_part at) (drop l.part-index l.parts)) ≡ leading (map (seen_part at) l.parts)
