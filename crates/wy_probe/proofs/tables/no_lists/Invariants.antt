use Rattle.std.proofs.Common.{◌≡◌, ◌++◌, drop, map}
use Rattle.wy_probe.specs.Tables.{table_of}
use Rattle.wy_types.specs.Names.{seen_declared}
use Rattle.wy_probe.specs.Tables.{no_lists}
use Rattle.wy_probe.proofs.tables.no_lists.Given as goal

abbrev pub invariant-loop-declared : goal.invariant-loop-declared
invariant-loop-declared l = table_of l.table ++ no_lists (map seen_declared (drop l.declared-index l.types)) ≡ no_lists (map seen_declared l.types)
