use Rattle.std.proofs.Common.{◌≡◌, ◌++◌, drop, length, map}
use Rattle.wy_probe.specs.Tables.{table_of}
use Rattle.wy_probe.proofs.probing.lengths_of.Given as goal

abbrev pub invariant-loop-list : goal.invariant-loop-list
invariant-loop-list l = l.lengths.items ++ map length (table_of (drop l.list-index l.lists)) ≡ map length (table_of l.lists)
