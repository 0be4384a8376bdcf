use Rattle.std.proofs.Common.{◌≡◌, ◌++◌, drop, map}
use Rattle.wy_probe.specs.Tables.{data_in, rows_in}
use Rattle.wy_value.specs.Datum.{Record}
use Rattle.wy_probe.proofs.records.records.Given as goal

abbrev pub invariant-loop-row : goal.invariant-loop-row
invariant-loop-row l = data_in l.made ++ map (λ fs. Record fs) (rows_in (drop l.row-index l.held)) ≡ map (λ fs. Record fs) (rows_in l.held)
