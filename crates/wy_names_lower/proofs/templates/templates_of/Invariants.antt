use Rattle.std.proofs.Common.{◌≡◌, drop, map}
use Rattle.wy_ast.specs.SurfaceSeen.{seen_decl}
use Rattle.wy_names_lower.specs.Templates.{filled, templates}
use Rattle.wy_names_lower.specs.Uses.{seen_templates}
use Rattle.wy_names_lower.proofs.templates.templates_of.Given as goal

abbrev pub invariant-loop-index : goal.invariant-loop-index
invariant-loop-index l = record {
  scope : l.scope ≡ l.fn.scope;
  value : filled l.fn.scope (map seen_decl l.decls) l.expansions (seen_templates l.made) (drop l.index-index l.order) ≡ templates l.fn.scope (map seen_decl l.decls) l.expansions l.order;
}
