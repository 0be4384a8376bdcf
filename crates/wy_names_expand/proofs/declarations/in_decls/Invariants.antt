use Rattle.std.proofs.Common.{◌≡◌, drop, map}
use Rattle.wy_ast.specs.SurfaceSeen.{seen_decl}
use Rattle.wy_names_expand.specs.Faults.{in_decls}
use Rattle.wy_names_expand.proofs.declarations.in_decls.Given as goal

abbrev pub invariant-loop-decl : goal.invariant-loop-decl
invariant-loop-decl l = in_decls l.scope l.expansions (map seen_decl (drop l.decl-index l.decls)) l.found ≡ in_decls l.scope l.expansions (map seen_decl l.decls) l.fn.found
