use Rattle.std.proofs.Common.{drop, map}
use Rattle.wy_core.specs.CoreSeen.{seen_decl}
use Rattle.wy_vc_spec.specs.Numbered.{numbered_decls}
use Rattle.wy_vc_spec.specs.Programs.{decls_conditions}
use Rattle.wy_vc_body.specs.Frames.{program_of}
use Rattle.wy_vc.proofs.DeclarationLemmas.{IsOwing}
use Rattle.wy_vc.proofs.declarations.owe_all.Given as goal

abbrev pub invariant-loop-number : goal.invariant-loop-number
invariant-loop-number l = IsOwing (program_of l.core l.program) l.fn.walk l.walk (drop l.number l.decls) l.first (decls_conditions (program_of l.core l.program) (numbered_decls (map seen_decl l.decls) 0))
