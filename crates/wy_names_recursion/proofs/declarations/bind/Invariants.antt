use Rattle.std.proofs.Common.{◌≡◌, drop, map}
use Rattle.wy_ast.specs.SurfaceSeen.{seen_decl}
use Rattle.wy_names_recursion.specs.DeclNames.{in_decls}
use Rattle.wy_names_recursion.proofs.declarations.bind.Given as goal

abbrev pub invariant-loop-decl : goal.invariant-loop-decl
invariant-loop-decl l = record {
  scope : l.scope ≡ l.fn.scope;
  value : in_decls l.fn.scope (map seen_decl (drop l.decl-index l.decls)) l.found ≡ in_decls l.fn.scope (map seen_decl l.decls) l.fn.found;
}
