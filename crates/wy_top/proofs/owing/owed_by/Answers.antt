use Rattle.wy_top.specs.Kept.{program_in}
use Rattle.wy_top.proofs.OwingLemmas.{owes_value, owes_fault}
use Rattle.wy_top.proofs.owing.owed_by.Goals as goal

pub returns-in-Ok-clause-gives : goal.returns-in-Ok-clause-gives
returns-in-Ok-clause-gives c = λ s.
    owes_value s c.args.name.now c.args.bytes.now (program_in (record { typed = c.in-Ok.typed; conds = c.in-Ok.conds })) c.in-Ok.ensures.program c.in-Ok.ensures.complete c.in-Ok.ensures.exact

pub returns-in-Ok-clause-kept : goal.returns-in-Ok-clause-kept
returns-in-Ok-clause-kept c = record {
  conditions = c.in-Ok.ensures.conditions;
  told = c.in-Ok.ensures.list;
  numbers = c.in-Ok.ensures.numbers;
  formed = c.in-Ok.ensures.formed;
  few = c.in-Ok.ensures.few;
  assigned = c.in-Ok.ensures.assigned;
  source = record { bytes = c.args.bytes.now; owes = c.in-Ok.ensures.program };
}

pub returns-in-Err-clause-gives : goal.returns-in-Err-clause-gives
returns-in-Err-clause-gives c = λ s.
    owes_fault s c.args.name.now c.args.bytes.now c.in-Err.fault c.fault_answer.result c.in-Err.ensures.refused c.in-Err.ensures.complete c.in-Err.ensures.exact c.fault_answer.ensures.value
