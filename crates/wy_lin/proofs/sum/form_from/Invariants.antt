use Rattle.std.proofs.Common.{◌≡◌, map, take}
use Rattle.wy_lin.specs.Seen.{turned}
use Rattle.wy_lin.proofs.sum.form_from.Given as goal

abbrev pub invariant-loop-i : goal.invariant-loop-i
invariant-loop-i l = l.parts.items ≡ take l.i (map turned l.sum.coefficients.entries)
