use Rattle.std.proofs.Common.{◌≡◌, drop, map}
use Rattle.wy_ast.specs.SurfaceSeen.{seen_decl}
use Rattle.wy_names_expand.specs.Summaries.{summed_up, summaries}
use Rattle.wy_names_expand.proofs.properties.summaries.Given as goal

abbrev pub invariant-loop-index : goal.invariant-loop-index
invariant-loop-index l = summed_up l.scope (map seen_decl l.decls) l.expansions (drop l.index-index l.order) ≡ summaries l.scope (map seen_decl l.decls) l.order
