use Rattle.wy_core.specs.CoreSeen.{seen_ty}
use Rattle.wy_types.specs.Names.{types_of}
use Rattle.wy_flow_exprs.proofs.FoundLemmas.{given_at, given_none}
use Rattle.wy_flow_exprs.proofs.calls.result_type.Goals as goal

pub returns-in_ok-void_type-in-None-clause-value : goal.returns-in_ok-void_type-in-None-clause-value
returns-in_ok-void_type-in-None-clause-value c =
    given_none (types_of c.args.program.now.names) c.args.at c.args.program.now.signatures c.args.routine (seen_ty c.in_ok-void_type-in-None.field-0) c.in-None.ensures.value c.in_ok-void_type-in-None.ensures.value

pub returns-in-Some-clause-value : goal.returns-in-Some-clause-value
returns-in-Some-clause-value c =
    given_at (types_of c.args.program.now.names) c.args.at c.args.program.now.signatures c.args.routine c.in-Some.signature.now seen_ty c.given_by.result c.in-Some.ensures.value c.given_by.ensures.value
