use Rattle.std.proofs.Common.{◌≡◌, map, nat_eq, drop}
use Rattle.wy_lin.specs.Linear.{plus_parts}
use Rattle.wy_lin.specs.Seen.{turned}
use Rattle.wy_check.specs.Seen.{factor_of}
use Rattle.wy_check.proofs.multiples.plus_parts.Given as goal

abbrev pub invariant-loop-part : goal.invariant-loop-part
invariant-loop-part l = plus_parts nat_eq (map turned l.coefficients.entries) (factor_of l.m) (drop l.part-index l.parts) ≡ plus_parts nat_eq (map turned l.fn.coefficients.entries) (factor_of l.m) l.parts
