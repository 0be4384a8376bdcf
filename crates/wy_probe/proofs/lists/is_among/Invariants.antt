use Rattle.std.proofs.Common.{◌≡◌, drop}
use Rattle.wy_value.specs.Seen.{seen}
use Rattle.wy_probe.specs.Tables.{data_in}
use Rattle.wy_probe.specs.Candidates.{is_among}
use Rattle.wy_probe.proofs.lists.is_among.Given as goal

abbrev pub invariant-loop-other : goal.invariant-loop-other
invariant-loop-other l = is_among (seen l.value) (data_in (drop l.other-index l.others)) ≡ is_among (seen l.value) (data_in l.others)
