use Rattle.std.proofs.Common.{◌≡◌, ◌++◌, drop, map}
use Rattle.wy_core.specs.CoreSeen.{seen_decl}
use Rattle.wy_core.specs.CoreTree.{aliases_of}
use Rattle.wy_code_spec.specs.compiled.Programs as spec
use Rattle.wy_gen.proofs.program.type_routines.Given as goal

abbrev pub invariant-loop-decl : goal.invariant-loop-decl
invariant-loop-decl l = l.routines ++ spec.type_routines l.context (aliases_of (map seen_decl (drop l.decl-index l.decls))) ≡ l.fn.others ++ spec.type_routines l.context (aliases_of (map seen_decl l.decls))
