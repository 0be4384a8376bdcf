use Rattle.std.proofs.Common.{◌≡◌, drop, map}
use Rattle.wy_core.specs.CoreSeen.{seen_decl}
use Rattle.wy_code_spec.specs.tables.Tables as spec
use Rattle.wy_code_spec.proofs.tables.tables.decls_table.Given as goal

abbrev pub invariant-loop-decl : goal.invariant-loop-decl
invariant-loop-decl l = spec.decls_table (map seen_decl (drop l.decl-index l.decls)) l.table ≡ spec.decls_table (map seen_decl l.decls) l.fn.table
