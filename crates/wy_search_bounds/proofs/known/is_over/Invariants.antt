use Rattle.std.proofs.Common.{◌<◌, ℕ, All, take}
use Rattle.std.specs.Prelude.{ℤ}
use Rattle.wy_search_bounds.proofs.known.is_over.Given as goal

-- the variables so far are of the first terms
abbrev pub invariant-loop-part : goal.invariant-loop-part
invariant-loop-part l = All (λ (p : ℤ × ℕ). p.1 < l.floor) (take l.part-index l.form.parts.items)
