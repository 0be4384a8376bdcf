use Rattle.std.proofs.Common.{sym}
use Rattle.wy_core.specs.CoreSeen.{seen_decl}
use Rattle.wy_flow_exprs.specs.Seen.{seen_flow, seen_program}
use Rattle.wy_flow_spec.specs.typing.Programs as programs
use Rattle.wy_flow.proofs.WalkLemmas.{moved}
use Rattle.wy_flow.proofs.program.decl_typed.Goals as goal

pub returns-in-Alias-clause-value : goal.returns-in-Alias-clause-value
returns-in-Alias-clause-value c =
    let P = seen_program c.args.program.now in
    moved (λ d. programs.DeclTyped P (seen_decl d) (seen_flow c.args.walk.now)) _ _ _ _ (sym c.in-Alias.is) c.alias_typed.ensures.value

pub returns-in-Routine-clause-value : goal.returns-in-Routine-clause-value
returns-in-Routine-clause-value c =
    let P = seen_program c.args.program.now in
    moved (λ d. programs.DeclTyped P (seen_decl d) (seen_flow c.args.walk.now)) _ _ _ _ (sym c.in-Routine.is) c.routine_typed.ensures.value
