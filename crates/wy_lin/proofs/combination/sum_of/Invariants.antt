use Rattle.std.proofs.Common.{◌≡◌, map, drop}
use Rattle.wy_lin.specs.Combination.{combined_from, combined}
use Rattle.wy_lin.specs.Seen.{linear_form, linear_sum}
use Rattle.wy_lin.proofs.combination.sum_of.Given as goal

abbrev pub invariant-loop-m : goal.invariant-loop-m
invariant-loop-m l = combined_from (map linear_form l.forms) (linear_sum l.sum) (drop l.m-index l.multipliers) ≡ combined (map linear_form l.forms) l.multipliers
