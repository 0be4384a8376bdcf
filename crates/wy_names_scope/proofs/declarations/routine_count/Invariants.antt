use Rattle.std.proofs.Common.{◌≡◌, ◌+◌, ◌<◌, drop, map}
use Rattle.wy_ast.specs.SurfaceSeen.{seen_decl}
use Rattle.wy_names_scope.specs.Declarations.{routine_count}
use Rattle.wy_names_scope.proofs.declarations.routine_count.Given as goal

abbrev pub invariant-loop-decl : goal.invariant-loop-decl
invariant-loop-decl l = record {
  value : l.count + routine_count (map seen_decl (drop l.decl-index l.decls)) ≡ routine_count (map seen_decl l.decls);
  within : l.count < 4294967294;
}
