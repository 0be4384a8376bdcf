use Rattle.std.proofs.Common.{◌≡◌}
use Rattle.wy_types.specs.Names.{types_of}
use Rattle.wy_probe.specs.Tables.{table_of, tables_of}
use Rattle.wy_probe.specs.Tables.{rounds}
use Rattle.wy_probe.proofs.tables.settled.Given as goal

abbrev pub invariant-loop-round : goal.invariant-loop-round
invariant-loop-round l = table_of l.table ≡ rounds (types_of l.names) (tables_of l.lower) l.round
