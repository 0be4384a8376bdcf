use Rattle.wy_core.specs.CoreSeen.{seen_ty}
use Rattle.wy_flow_spec.specs.environment.Seen.{seen_slot}
use Rattle.wy_types.specs.Names.{types_of}
use Rattle.wy_flow_spec.specs.typing.Joins.{JoinedSlot}
use Rattle.wy_flow_exprs.proofs.checks_lemmas.JoinLemmas.{slot_given, slot_refused}
use Rattle.wy_flow_exprs.proofs.checks_lemmas.StepLemmas.{refused_on}
use Rattle.wy_flow_exprs.proofs.checks.joins.joined_slot.Goals as goal

pub returns-in_ok-made-in-Some-Some-clause-value : goal.returns-in_ok-made-in-Some-Some-clause-value
returns-in_ok-made-in-Some-Some-clause-value c =
    slot_given (types_of c.args.names.now) c.args.at c.args.first.now c.args.second.now c.in-Some-Some.first c.in-Some-Some.second (seen_ty c.in_ok-made-in-Some-Some.made) c.in-Some-Some.is-0 c.in-Some-Some.is-1 c.in_ok-made-in-Some-Some.ensures.value

pub returns-in_err-made-in-Some-Some-clause-value : goal.returns-in_err-made-in-Some-Some-clause-value
returns-in_err-made-in-Some-Some-clause-value c =
    refused_on (JoinedSlot (types_of c.args.names.now) c.args.at (seen_slot c.args.first.now) (seen_slot c.args.second.now)) seen_slot c.in_err-made-in-Some-Some.field-0.0 c.from_residual.result
    (slot_refused (types_of c.args.names.now) c.args.at c.args.first.now c.args.second.now c.in-Some-Some.first c.in-Some-Some.second c.in_err-made-in-Some-Some.field-0.0 c.in-Some-Some.is-0 c.in-Some-Some.is-1 c.in_err-made-in-Some-Some.ensures.value)
    c.from_residual.ensures.1
