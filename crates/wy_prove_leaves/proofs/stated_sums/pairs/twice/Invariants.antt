use Rattle.std.proofs.Common.{◌≡◌, take}
use Rattle.wy_prove_leaves.specs.stated_sums.Cuts.{twice}
use Rattle.wy_prove_leaves.proofs.stated_sums.pairs.twice.Given as goal

abbrev pub invariant-loop-pair : goal.invariant-loop-pair
invariant-loop-pair l = l.made.items ≡ twice (take l.pair-index l.pairs)
