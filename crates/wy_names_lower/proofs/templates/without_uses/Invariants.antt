use Rattle.std.proofs.Common.{◌≡◌, ◌++◌, drop, map}
use Rattle.wy_ast.specs.SurfaceSeen.{seen_decl}
use Rattle.wy_names_lower.specs.Templates.{without_uses}
use Rattle.wy_names_lower.specs.Uses.{seen_templates}
use Rattle.wy_names_lower.proofs.templates.without_uses.Given as goal

abbrev pub invariant-loop-decl : goal.invariant-loop-decl
invariant-loop-decl l = seen_templates l.made ++ without_uses (map seen_decl (drop l._decl-index l.decls)) ≡ without_uses (map seen_decl l.decls)
