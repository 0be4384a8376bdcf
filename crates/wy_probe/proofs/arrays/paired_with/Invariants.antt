use Rattle.std.proofs.Common.{◌≡◌, ◌++◌, drop, map}
use Rattle.wy_value.specs.Seen.{seen}
use Rattle.wy_probe.specs.Tables.{data_in}
use Rattle.wy_probe.specs.Candidates.{two_items}
use Rattle.wy_probe.proofs.arrays.paired_with.Given as goal

abbrev pub invariant-loop-second : goal.invariant-loop-second
invariant-loop-second l = data_in l.made ++ map (two_items (seen l.first)) (data_in (drop l.second-index l.seconds)) ≡ data_in l.initial.made ++ map (two_items (seen l.first)) (data_in l.seconds)
