use Rattle.std.proofs.Common.{◌≡◌, ◌++◌, drop, map}
use Rattle.wy_core.specs.CoreSeen.{seen_decl}
use Rattle.wy_core.specs.CoreTree.{routines_of}
use Rattle.wy_code_spec.specs.compiled.Programs as spec
use Rattle.wy_gen.proofs.program.body_routines.Given as goal

abbrev pub invariant-loop-decl : goal.invariant-loop-decl
invariant-loop-decl l = l.routines ++ spec.body_routines l.context (routines_of (map seen_decl (drop l.decl-index l.decls))) ≡ spec.body_routines l.context (routines_of (map seen_decl l.decls))
