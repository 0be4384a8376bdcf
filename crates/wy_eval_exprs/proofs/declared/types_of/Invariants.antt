use Rattle.std.proofs.Common.{◌≡◌, ◌++◌, map, drop}
use Rattle.wy_core.specs.CoreSeen.{seen_alias, seen_decl}
use Rattle.wy_core.specs.CoreTree.{aliases_of}
use Rattle.wy_eval_exprs.proofs.declared.types_of.Given as goal

abbrev pub invariant-loop-decl : goal.invariant-loop-decl
invariant-loop-decl l = map seen_alias l.made ++ aliases_of (map seen_decl (drop l.decl-index l.decls)) ≡ aliases_of (map seen_decl l.decls)
