use Rattle.std.proofs.Common.{◌≡◌, ◌++◌, drop}
use Rattle.wy_probe.specs.Tables.{data_in}
use Rattle.wy_probe.specs.Candidates.{beside, joined}
use Rattle.wy_probe.proofs.lists.joined.Given as goal

abbrev pub invariant-loop-value : goal.invariant-loop-value
invariant-loop-value l = data_in l.made ++ beside (data_in l.first) (data_in (drop l.value-index l.second)) ≡ joined (data_in l.first) (data_in l.second)
