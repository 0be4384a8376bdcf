use Rattle.std.proofs.Common.{◌≡◌, ◌++◌, drop}
use Rattle.wy_probe.specs.Tables.{data_in, rows_in}
use Rattle.wy_probe.specs.Candidates.{with_field}
use Rattle.wy_probe.proofs.records.with_field.Given as goal

abbrev pub invariant-loop-value : goal.invariant-loop-value
invariant-loop-value l = rows_in l.rows ++ with_field l.name (data_in (drop l.value-index l.values)) (rows_in l.rests) ≡ with_field l.name (data_in l.values) (rows_in l.rests)
