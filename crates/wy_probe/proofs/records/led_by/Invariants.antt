use Rattle.std.proofs.Common.{◌≡◌, ◌++◌, drop, map}
use Rattle.wy_value.specs.Seen.{seen}
use Rattle.wy_probe.specs.Tables.{rows_in}
use Rattle.wy_value.specs.Datum.{field}
use Rattle.wy_probe.proofs.records.led_by.Given as goal

abbrev pub invariant-loop-rest : goal.invariant-loop-rest
invariant-loop-rest l = rows_in l.rows ++ map (field l.name (seen l.value)) (rows_in (drop l.rest-index l.rests)) ≡ rows_in l.initial.rows ++ map (field l.name (seen l.value)) (rows_in l.rests)
