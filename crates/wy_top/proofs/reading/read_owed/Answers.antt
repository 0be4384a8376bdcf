use Rattle.wy_top_probe.specs.wy_flow_spec.typing.TypedPrograms.{core_of, flow_of}
use Rattle.wy_top.proofs.ConditionLemmas.{are_few, are_formed, are_within, conditions_are}
use Rattle.wy_top.proofs.OwedLemmas.{assigned, limit_complete, limit_exact, limit_refused, owes, owes_exact, owes_only, unread_complete, unread_exact}
use Rattle.wy_top.proofs.reading.read_owed.Goals as goal

pub returns-in-Err-clause-complete : goal.returns-in-Err-clause-complete
returns-in-Err-clause-complete c = unread_complete c.args.source.now c.in-Err.refusal c.in-Err.ensures.complete

pub returns-in-Err-clause-exact : goal.returns-in-Err-clause-exact
returns-in-Err-clause-exact c = unread_exact c.args.source.now c.in-Err.refusal c.in-Err.ensures.complete c.in-Err.ensures.exact

pub returns-in-Ok-conditions-clause-program : goal.returns-in-Ok-conditions-clause-program
returns-in-Ok-conditions-clause-program c = owes c.args.source.now (core_of c.in-Ok.typed) (flow_of c.in-Ok.typed) c.in-Ok.ensures.program c.in-Ok-conditions.ensures.within

pub returns-in-Ok-conditions-clause-complete : goal.returns-in-Ok-conditions-clause-complete
returns-in-Ok-conditions-clause-complete c = owes_only c.args.source.now (core_of c.in-Ok.typed) (flow_of c.in-Ok.typed) c.in-Ok.ensures.complete

pub returns-in-Ok-conditions-clause-numbers : goal.returns-in-Ok-conditions-clause-numbers
returns-in-Ok-conditions-clause-numbers c = are_within c.in-Ok-conditions.conds.terms c.in-Ok-conditions.conds.list.items c.in-Ok-conditions.ensures.numbers

pub returns-in-Ok-conditions-clause-formed : goal.returns-in-Ok-conditions-clause-formed
returns-in-Ok-conditions-clause-formed c = are_formed (core_of c.in-Ok.typed) (flow_of c.in-Ok.typed) c.in-Ok-conditions.conds.terms c.in-Ok-conditions.conds.list.items c.in-Ok-conditions.ensures.list

pub returns-in-Ok-conditions-clause-assigned : goal.returns-in-Ok-conditions-clause-assigned
returns-in-Ok-conditions-clause-assigned c = assigned c.args.source.now (core_of c.in-Ok.typed) (flow_of c.in-Ok.typed) c.in-Ok.ensures.program

pub returns-in-Ok-conditions-clause-conditions : goal.returns-in-Ok-conditions-clause-conditions
returns-in-Ok-conditions-clause-conditions c = conditions_are (core_of c.in-Ok.typed) (flow_of c.in-Ok.typed) c.in-Ok-conditions.conds.terms c.in-Ok-conditions.conds.list.items c.in-Ok-conditions.ensures.list

pub returns-in-Ok-conditions-clause-few : goal.returns-in-Ok-conditions-clause-few
returns-in-Ok-conditions-clause-few c =
    are_few (core_of c.in-Ok.typed) (flow_of c.in-Ok.typed) c.in-Ok-conditions.conds.terms c.in-Ok-conditions.conds.list.items c.in-Ok-conditions.ensures.list c.in-Ok-conditions.ensures.within

pub returns-in-Ok-conditions-clause-exact : goal.returns-in-Ok-conditions-clause-exact
returns-in-Ok-conditions-clause-exact c = owes_exact c.args.source.now (core_of c.in-Ok.typed) (flow_of c.in-Ok.typed) c.in-Ok.ensures.complete c.in-Ok.ensures.exact c.in-Ok-conditions.ensures.within

pub returns-in-Err-conditions-clause-complete : goal.returns-in-Err-conditions-clause-complete
returns-in-Err-conditions-clause-complete c = limit_complete c.args.source.now (core_of c.in-Ok.typed) (flow_of c.in-Ok.typed) c.in-Err-conditions.fault c.in-Ok.ensures.complete c.in-Err-conditions.ensures.fault

pub returns-in-Err-conditions-clause-refused : goal.returns-in-Err-conditions-clause-refused
returns-in-Err-conditions-clause-refused c = limit_refused c.args.source.now (core_of c.in-Ok.typed) (flow_of c.in-Ok.typed) c.in-Err-conditions.fault c.in-Ok.ensures.program c.in-Err-conditions.ensures.fault

pub returns-in-Err-conditions-clause-exact : goal.returns-in-Err-conditions-clause-exact
returns-in-Err-conditions-clause-exact c =
    limit_exact c.args.source.now (core_of c.in-Ok.typed) (flow_of c.in-Ok.typed) c.in-Err-conditions.fault c.in-Ok.ensures.complete c.in-Ok.ensures.exact c.in-Err-conditions.ensures.fault
