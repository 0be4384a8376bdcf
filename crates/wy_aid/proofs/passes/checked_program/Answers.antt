use Rattle.std.proofs.Common.{map}
use Rattle.wy_ast.specs.SurfaceSeen.{seen_decl}
use Rattle.wy_aid.proofs.NamedLemmas.{recurs}
use Rattle.wy_aid.proofs.passes.checked_program.Goals as goal

pub check-requires : goal.check-requires
check-requires c = record { recursion = recurs (map seen_decl c.in-Ok.program.decls) c.in-Ok-resolve.core c.in-Ok-resolve.ensures.value }
