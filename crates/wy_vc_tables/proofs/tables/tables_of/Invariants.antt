use Rattle.std.proofs.Common.{◌≡◌, ◌++◌, drop}
use Rattle.wy_vc_tables.specs.Tables.{called_of, entries_of, places_of}
use Rattle.wy_vc_tables.proofs.tables.tables_of.Given as goal

-- those so far, and those of the declarations that are left
abbrev pub invariant-loop-number : goal.invariant-loop-number
invariant-loop-number l = record {
  places : l.tables.places.items ++ places_of (drop l.number l.decls) l.number l.tables.next ≡ places_of l.decls 0 0;
  entries : l.tables.entries.items ++ entries_of (drop l.number l.decls) ≡ entries_of l.decls;
  routines : l.tables.routines.items ++ called_of (drop l.number l.decls) l.number l.tables.next ≡ called_of l.decls 0 0;
}
