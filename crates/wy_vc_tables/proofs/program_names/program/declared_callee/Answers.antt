use Rattle.std.proofs.Common.{Option, subst, sym}
use Rattle.wy_core.specs.declared.declarations.Routine.{Routine}
use Rattle.wy_vc_tables.specs.program_names.Described.{IsRoutine}
use Rattle.wy_vc_tables.proofs.program_names.program.declared_callee.Goals as goal

pub returns-in-Some : goal.returns-in-Some
returns-in-Some c = record { value = λ r is. subst (λ (o : Option Routine). IsRoutine r o c.args.called) (sym c.in-Some.ensures.value) is }

pub returns-in-None : goal.returns-in-None
returns-in-None c = record { value = λ r is. absurd (subst (λ (o : Option Routine). IsRoutine r o c.args.called) (sym c.in-None.ensures.value) is) }
