use Rattle.wy_mach.proofs.PartLemmas.{field_goes, field_stops}
use Rattle.wy_mach.proofs.parts.field.Goals as goal

pub returns-in-Ok-clause-value : goal.returns-in-Ok-clause-value
returns-in-Ok-clause-value c shapes extends =
    field_goes c.args.heap.now c.part.new.heap shapes c.args.registers.now c.part.new.registers c.args.to c.args.from c.args.name extends c.in-Ok.ensures.value

pub returns-in-Err-clause-stop : goal.returns-in-Err-clause-stop
returns-in-Err-clause-stop c shapes extends =
    field_stops c.args.heap.now shapes c.args.registers.now c.args.to c.args.from c.args.name c.in-Err.stop extends c.in-Err.ensures.stop

pub returns-in-Ok-clause-shares : goal.returns-in-Ok-clause-shares
returns-in-Ok-clause-shares c = c.in-Ok.ensures.shares

pub returns-in-Err-clause-memory : goal.returns-in-Err-clause-memory
returns-in-Err-clause-memory c = c.in-Err.ensures.memory

pub returns-in-Ok-clause-counts : goal.returns-in-Ok-clause-counts
returns-in-Ok-clause-counts c = c.in-Ok.ensures.counts
