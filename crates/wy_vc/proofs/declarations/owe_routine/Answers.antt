use Rattle.std.proofs.Common.{sym, subst}
use Rattle.wy_core.specs.CoreSeen.{seen_routine}
use Rattle.wy_core.specs.CoreTree as tree
use Rattle.wy_vc_spec.specs.Numbered.{Node, numbered_routine}
use Rattle.wy_vc_spec.specs.Programs.{body_conditions, contract_conditions}
use Rattle.wy_vc_body.specs.Frames.{program_of}
use Rattle.wy_vc_tables.specs.program_names.Described.{IsCalled}
use Rattle.wy_vc.specs.Entering.{Owes}
use Rattle.wy_vc.proofs.DeclarationLemmas.{next_routine}
use Rattle.wy_vc.proofs.OwingLemmas.{owes_then}
use Rattle.wy_vc.proofs.declarations.owe_routine.Goals as goal

pub owe_body-requires-clause-called : goal.owe_body-requires-clause-called
owe_body-requires-clause-called c =
    subst (λ (r : tree.Routine Node). IsCalled r c.args.routine.now c.in_ok-called.called) (sym c.in_ok-called.ensures.called.is) c.in_ok-called.ensures.called

pub owe_body-requires-clause-sound : goal.owe_body-requires-clause-sound
owe_body-requires-clause-sound c = c.in_ok-owe_contract.ensures.value.sound

pub returns-clause-value : goal.returns-clause-value
returns-clause-value c =
    let a = c.args.walk.now in
    let P = program_of c.args.core.now c.args.program.now in
    let R = numbered_routine (seen_routine c.args.routine.now) c.args.first in
    owes_then a c.owe_contract.new.walk c.owe_body.new.walk (contract_conditions P R) (body_conditions P R) c.in_ok-owe_contract.ensures.value
    (subst (λ (r : tree.Routine Node). Owes c.owe_contract.new.walk c.owe_body.new.walk (body_conditions P r)) c.in_ok-called.ensures.called.is c.in_ok-owe_body.ensures.value)

pub returns-clause-next : goal.returns-clause-next
returns-clause-next c = next_routine c.args.routine.now c.args.first c.in_ok-next.next c.in_ok-inside.inside c.in_ok-called.called c.as_slice.result.now c.in_ok-called.ensures.called c.in_ok-called.ensures.first c.as_slice.ensures c.in_ok-inside.ensures.value c.in_ok-next.ensures.value
