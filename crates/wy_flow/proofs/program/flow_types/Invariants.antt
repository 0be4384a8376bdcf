use Rattle.std.proofs.Common.{List, [], drop, map}
use Rattle.wy_core.specs.CoreSeen.{seen_decl}
use Rattle.wy_core.specs.Types.{Ty}
use Rattle.wy_flow_exprs.specs.Seen.{seen_flow, seen_program}
use Rattle.wy_types.specs.Names.{types_of}
use Rattle.wy_types.specs.Questions.{IsOver}
use Rattle.wy_flow_spec.specs.typing.Outcomes.{Outcome}
use Rattle.wy_flow_spec.specs.typing.Programs as spec
use Rattle.wy_flow.proofs.program.flow_types.Given as goal

abbrev pub invariant-loop-decl : goal.invariant-loop-decl
invariant-loop-decl l = record {
  over : IsOver (types_of l.program.names) l.walk.question;
  steps : (o : Outcome (List Ty))
      → spec.DeclsTyped (seen_program l.program) (map seen_decl (drop l.decl-index l.decls)) (seen_flow l.walk) o
      → spec.DeclsTyped (seen_program l.program) (map seen_decl l.decls) [] o;
}
