use Rattle.std.proofs.Common.{◌≡◌, take}
use Rattle.wy_prove_leaves.specs.stated_sums.Named.{with_numbers}
use Rattle.wy_prove_leaves.proofs.stated_sums.pairs.with_numbers.Given as goal

abbrev pub invariant-loop-m : goal.invariant-loop-m
invariant-loop-m l = l.made.items ≡ with_numbers l.numbers (take l.m-index l.multipliers)
