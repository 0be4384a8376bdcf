use Rattle.std.proofs.Common.{[], ◌∙◌}
use Rattle.wy_flow_spec.specs.environment.Seen.{seen_slots}
use Rattle.wy_types.specs.Names.{types_of}
use Rattle.wy_flow_spec.specs.typing.Joins.{JoinedSlots}
use Rattle.wy_flow_exprs.proofs.checks_lemmas.JoinLemmas.{slots_turn, slots_refused, slots_short, slots_end, counted_more}
use Rattle.wy_flow_exprs.proofs.checks_lemmas.StepLemmas.{refused_on}
use Rattle.wy_flow_exprs.proofs.checks.joins.joined_slots.Goals as goal

pub returns-in-None-clause-value : goal.returns-in-None-clause-value
returns-in-None-clause-value c =
    slots_short (types_of c.args.names.now) c.args.at c.loop-slot.made c.args.first.now c.args.second.now c.loop-slot.slot-index c.len.result c.slot-item.result c.loop-slot-test.true c.slot-item.is c.in-None.ensures (c.len.ensures ∙ c.loop-slot.invariant.counted)
    c.loop-slot.invariant.left

pub returns-in_err-next-in-Some-clause-value : goal.returns-in_err-next-in-Some-clause-value
returns-in_err-next-in-Some-clause-value c =
    refused_on (JoinedSlots (types_of c.args.names.now) c.args.at [] (seen_slots c.args.first.now) (seen_slots c.args.second.now)) seen_slots c.in_err-next-in-Some.field-0.0 c.from_residual.result
    (slots_refused (types_of c.args.names.now) c.args.at c.loop-slot.made c.args.first.now c.args.second.now c.loop-slot.slot-index c.len.result c.slot-item.result c.in-Some.other.now c.loop-slot-test.true c.slot-item.is c.in-Some.ensures
    (c.len.ensures ∙ c.loop-slot.invariant.counted) c.in_err-next-in-Some.field-0.0 c.in_err-next-in-Some.ensures.value c.loop-slot.invariant.left)
    c.from_residual.ensures.1

pub loop-slot-preserved : goal.loop-slot-preserved
loop-slot-preserved c = record {
  over = c.in_ok-next-in-Some.ensures.over;
  counted = counted_more c.loop-slot.made c.push.new.self c.in_ok-next-in-Some.next c.loop-slot.slot-index c.in_ok-push-in-Some.ensures.ok c.loop-slot.invariant.counted;
  left = slots_turn (types_of c.args.names.now) c.args.at c.loop-slot.made c.push.new.self c.args.first.now c.args.second.now c.loop-slot.slot-index c.len.result c.slot-item.result c.in-Some.other.now c.in_ok-next-in-Some.next c.loop-slot-test.true c.slot-item.is
      c.in-Some.ensures (c.len.ensures ∙ c.loop-slot.invariant.counted) c.in_ok-next-in-Some.ensures.value c.in_ok-push-in-Some.ensures.ok c.loop-slot.invariant.left;
}

pub returns-clause-value : goal.returns-clause-value
returns-clause-value c =
    slots_end (types_of c.args.names.now) c.args.at c.loop-slot.made c.args.first.now c.args.second.now c.loop-slot.slot-index c.loop-slot-test.false c.loop-slot.invariant.left
