use Rattle.std.proofs.Common.{◌≡◌, ◌++◌, drop, map}
use Rattle.wy_ast.specs.SurfaceSeen as surface
use Rattle.wy_core.specs.CoreSeen.{seen_decl}
use Rattle.wy_names_lower.specs.DeclsLowered.{in_decls}
use Rattle.wy_names_lower.specs.Uses.{seen_templates}
use Rattle.wy_names_lower.proofs.declarations.core_of.Given as goal

abbrev pub invariant-loop-decl : goal.invariant-loop-decl
invariant-loop-decl l = record {
  scope : l.scope ≡ l.fn.scope;
  value : map seen_decl l.made ++ in_decls (seen_templates l.templates) l.fn.scope (map surface.seen_decl (drop l.decl-index l.decls)) ≡ in_decls (seen_templates l.templates) l.fn.scope (map surface.seen_decl l.decls);
}
