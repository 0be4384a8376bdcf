use Rattle.std.proofs.Common.{◌≡◌, ◌++◌, map, drop}
use Rattle.wy_core.specs.CoreSeen.{seen_decl}
use Rattle.wy_core.specs.CoreTree.{routines_of}
use Rattle.wy_flow_exprs.specs.Seen.{seen_signature}
use Rattle.wy_flow_spec.specs.typing.Programs as spec
use Rattle.wy_flow_exprs.proofs.signatures.signatures_in.Given as goal

abbrev pub invariant-loop-decl : goal.invariant-loop-decl
invariant-loop-decl l = map seen_signature l.made ++ spec.signatures_in (routines_of (map seen_decl (drop l.decl-index l.decls))) ≡ spec.signatures_in (routines_of (map seen_decl l.decls))
