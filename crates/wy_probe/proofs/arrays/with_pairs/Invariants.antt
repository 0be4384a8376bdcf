use Rattle.std.proofs.Common.{◌≡◌, ◌++◌, drop}
use Rattle.wy_probe.specs.Tables.{data_in}
use Rattle.wy_probe.specs.Candidates.{pairs}
use Rattle.wy_probe.proofs.arrays.with_pairs.Given as goal

abbrev pub invariant-loop-first : goal.invariant-loop-first
invariant-loop-first l = data_in l.made ++ pairs (data_in (drop l.first-index l.firsts)) (data_in l.seconds) ≡ data_in l.initial.made ++ pairs (data_in l.firsts) (data_in l.seconds)
