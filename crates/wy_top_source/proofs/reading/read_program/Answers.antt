use Rattle.wy_top_source.proofs.ProgramLemmas.{assign_complete, assign_exact, assign_refused, early_complete, early_exact, flow_complete, flow_exact, flow_refused, program_complete, program_exact, program_formed, program_is, recurs}
use Rattle.wy_top_source.proofs.reading.read_program.Goals as goal
use Rattle.wy_assign.specs.wy_flow_spec.typing.TypedPrograms.{core_of, flow_of}

pub returns-in-Err-clause-complete : goal.returns-in-Err-clause-complete
returns-in-Err-clause-complete c = early_complete c.args.source.now c.in-Err.refusal c.in-Err.ensures.complete

pub returns-in-Err-clause-exact : goal.returns-in-Err-clause-exact
returns-in-Err-clause-exact c = early_exact c.args.source.now c.in-Err.refusal c.in-Err.ensures.complete c.in-Err.ensures.exact

pub check-requires : goal.check-requires
check-requires c = record { recursion = recurs c.args.source.now c.in-Ok.core c.in-Ok.ensures.core }

pub returns-in-Err-check-clause-complete : goal.returns-in-Err-check-clause-complete
returns-in-Err-check-clause-complete c = flow_complete c.args.source.now c.in-Ok.core c.in-Err-check.fault c.in-Ok.ensures.complete c.in-Err-check.ensures.complete

pub returns-in-Err-check-clause-refused : goal.returns-in-Err-check-clause-refused
returns-in-Err-check-clause-refused c = flow_refused c.args.source.now c.in-Ok.core c.in-Err-check.fault c.in-Ok.ensures.core c.in-Err-check.ensures.fault

pub returns-in-Err-check-clause-exact : goal.returns-in-Err-check-clause-exact
returns-in-Err-check-clause-exact c = flow_exact c.args.source.now c.in-Ok.core c.in-Err-check.fault c.in-Ok.ensures.complete c.in-Ok.ensures.exact c.in-Err-check.ensures.complete c.in-Err-check.ensures.exact

pub returns-in-Ok-assigned-clause-program : goal.returns-in-Ok-assigned-clause-program
returns-in-Ok-assigned-clause-program c =
    program_is c.args.source.now c.in-Ok.core (core_of c.in-Ok-check.typed) (flow_of c.in-Ok-check.typed) c.in-Ok.ensures.core c.in-Ok-check.ensures.typed.0 c.in-Ok-check.ensures.typed.1 c.in-Ok-assigned.ensures.sound

pub returns-in-Ok-assigned-clause-complete : goal.returns-in-Ok-assigned-clause-complete
returns-in-Ok-assigned-clause-complete c =
    program_complete c.args.source.now c.in-Ok.core (core_of c.in-Ok-check.typed) (flow_of c.in-Ok-check.typed) c.in-Ok.ensures.complete c.in-Ok-check.ensures.typed.0 c.in-Ok-check.ensures.complete

pub returns-in-Ok-assigned-clause-formed : goal.returns-in-Ok-assigned-clause-formed
returns-in-Ok-assigned-clause-formed c = program_formed c.args.source.now c.in-Ok.core (core_of c.in-Ok-check.typed) c.in-Ok.ensures.core c.in-Ok-check.ensures.typed.0

pub returns-in-Ok-assigned-clause-exact : goal.returns-in-Ok-assigned-clause-exact
returns-in-Ok-assigned-clause-exact c =
    program_exact c.args.source.now c.in-Ok.core (core_of c.in-Ok-check.typed) c.in-Ok.ensures.complete c.in-Ok.ensures.exact c.in-Ok-check.ensures.exact c.in-Ok-check.ensures.typed.0 c.in-Ok-assigned.ensures.exact

pub returns-in-Err-assigned-clause-complete : goal.returns-in-Err-assigned-clause-complete
returns-in-Err-assigned-clause-complete c =
    assign_complete c.args.source.now c.in-Ok.core (core_of c.in-Ok-check.typed) c.in-Err-assigned.fault c.in-Ok.ensures.complete c.in-Ok-check.ensures.typed.0 c.in-Err-assigned.ensures.complete

pub returns-in-Err-assigned-clause-refused : goal.returns-in-Err-assigned-clause-refused
returns-in-Err-assigned-clause-refused c =
    assign_refused c.args.source.now c.in-Ok.core (core_of c.in-Ok-check.typed) (flow_of c.in-Ok-check.typed) c.in-Err-assigned.fault c.in-Ok.ensures.core c.in-Ok-check.ensures.typed.0 c.in-Ok-check.ensures.typed.1 c.in-Err-assigned.ensures.fault

pub returns-in-Err-assigned-clause-exact : goal.returns-in-Err-assigned-clause-exact
returns-in-Err-assigned-clause-exact c =
    assign_exact c.args.source.now c.in-Ok.core (core_of c.in-Ok-check.typed) c.in-Err-assigned.fault c.in-Ok.ensures.complete c.in-Ok.ensures.exact c.in-Ok-check.ensures.exact c.in-Ok-check.ensures.typed.0 c.in-Err-assigned.ensures.exact
