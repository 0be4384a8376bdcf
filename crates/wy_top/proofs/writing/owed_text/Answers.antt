use Rattle.std.proofs.Common.{arith}
use Rattle.wy_top_probe.specs.wy_flow_spec.typing.TypedPrograms.{core_of, flow_of}
use Rattle.wy_vc.specs.Listed.{seen_conds}
use Rattle.wy_top.proofs.OwedLemmas.{text_complete, text_is, textless}
use Rattle.wy_top.proofs.writing.owed_text.Goals as goal

pub returns-in-Err-clause-complete : goal.returns-in-Err-clause-complete
returns-in-Err-clause-complete c = textless c.args.source.now c.in-Err.fault c.in-Err.ensures.complete

pub conditions_text-requires : goal.conditions_text-requires
conditions_text-requires c = record { numbers = c.in-Ok.ensures.numbers; few = omega (arith, c.in-Ok.ensures.few) }

pub returns-in-Ok-conditions_text-clause-text : goal.returns-in-Ok-conditions_text-clause-text
returns-in-Ok-conditions_text-clause-text c =
    text_is c.args.source.now c.in-Ok-conditions_text.text.items (core_of c.in-Ok.owed.0) (flow_of c.in-Ok.owed.0) (seen_conds c.in-Ok.owed.1) c.in-Ok.ensures.program c.in-Ok.ensures.list c.in-Ok-conditions_text.ensures.value

pub returns-in-Ok-conditions_text-clause-complete : goal.returns-in-Ok-conditions_text-clause-complete
returns-in-Ok-conditions_text-clause-complete c =
    text_complete c.args.source.now c.in-Ok-conditions_text.text.items (core_of c.in-Ok.owed.0) (flow_of c.in-Ok.owed.0) (seen_conds c.in-Ok.owed.1) c.in-Ok.ensures.complete c.in-Ok.ensures.list c.in-Ok-conditions_text.ensures.value
