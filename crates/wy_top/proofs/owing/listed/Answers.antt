use Rattle.wy_top.proofs.OwingLemmas.{lists_value, lists_fault}
use Rattle.wy_top.proofs.owing.listed.Goals as goal

pub returns-in-Ok : goal.returns-in-Ok
returns-in-Ok c = record {
  gives = λ s. rw c.new.ensures.value (lists_value s c.args.name.now c.args.bytes.now c.in-Ok.text.items c.in-Ok.ensures.text c.in-Ok.ensures.complete c.in-Ok.ensures.exact);
}

pub returns-in-Err : goal.returns-in-Err
returns-in-Err c = record {
  gives = λ s. lists_fault s c.args.name.now c.args.bytes.now c.in-Err.fault c.fault_answer.result c.in-Err.ensures.refused c.in-Err.ensures.complete c.in-Err.ensures.exact c.fault_answer.ensures.value;
}
