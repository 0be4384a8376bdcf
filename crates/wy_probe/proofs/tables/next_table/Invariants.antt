use Rattle.std.proofs.Common.{◌≡◌, ◌++◌, drop, map}
use Rattle.wy_types.specs.Names.{types_of}
use Rattle.wy_probe.specs.Tables.{table_of, tables_of}
use Rattle.wy_types.specs.Names.{seen_declared}
use Rattle.wy_probe.specs.Tables.{tables_for as next_table}
use Rattle.wy_probe.proofs.tables.next_table.Given as goal

abbrev pub invariant-loop-declared : goal.invariant-loop-declared
invariant-loop-declared l = table_of l.next ++ next_table (map seen_declared (drop l.declared-index l.types)) (types_of l.names) (tables_of l.lower) (table_of l.table) ≡ next_table (map seen_declared l.types) (types_of l.names) (tables_of l.lower) (table_of l.table)
