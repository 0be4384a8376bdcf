use Rattle.std.proofs.Common.{◌≡◌, ℕ, drop, map}
use Rattle.wy_search_bounds.proofs.products.all_zero.Given as goal
use Rattle.wy_lin.specs.Seen.{seen_part}
use Rattle.wy_term.specs.Term.{Term}
use Rattle.wy_cong.specs.wy_check_spec.valid.Sums.{all_zero}

-- none so far is a variable
abbrev pub invariant-loop-part : goal.invariant-loop-part
invariant-loop-part l = (at : ℕ → Term) → all_zero (map (seen_part at) (drop l.part-index l.parts)) ≡ all_zero (map (seen_part at) l.parts)
