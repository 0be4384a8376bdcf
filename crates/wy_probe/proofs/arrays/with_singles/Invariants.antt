use Rattle.std.proofs.Common.{◌≡◌, ◌++◌, drop, map}
use Rattle.wy_probe.specs.Tables.{data_in}
use Rattle.wy_probe.specs.Candidates.{one_item}
use Rattle.wy_probe.proofs.arrays.with_singles.Given as goal

abbrev pub invariant-loop-value : goal.invariant-loop-value
invariant-loop-value l = data_in l.made ++ map one_item (data_in (drop l.value-index l.values)) ≡ data_in l.initial.made ++ map one_item (data_in l.values)
