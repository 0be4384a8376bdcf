use Rattle.wy_value.proofs.Refusals.{read-spells, read-values, read-reads, read-exact, stopped-within, stopped-reads, stopped-exact, refused}
use Rattle.wy_value.proofs.text.values.Goals as goal

pub refusal-requires : goal.refusal-requires
refusal-requires c = stopped-within c.args.text.now c.in-Err.stop c.in-Err.ensures

pub returns-in-Ok-clause-spells : goal.returns-in-Ok-clause-spells
returns-in-Ok-clause-spells c = read-spells c.args.text.now c.in-Ok.values c.in-Ok.field-0-1.now c.in-Ok.ensures

pub returns-in-Ok-clause-reads : goal.returns-in-Ok-clause-reads
returns-in-Ok-clause-reads c = read-reads c.args.text.now c.in-Ok.values c.in-Ok.field-0-1.now c.in-Ok.ensures

pub returns-in-Ok-clause-exact : goal.returns-in-Ok-clause-exact
returns-in-Ok-clause-exact c = λ x at m. absurd (read-exact c.args.text.now c.in-Ok.values c.in-Ok.field-0-1.now c.in-Ok.ensures x at m)

pub returns-in-Err-clause-reads : goal.returns-in-Err-clause-reads
returns-in-Err-clause-reads c = rw c.refusal.ensures (stopped-reads c.args.text.now c.in-Err.stop c.in-Err.ensures)

pub returns-in-Err-clause-fault : goal.returns-in-Err-clause-fault
returns-in-Err-clause-fault c = rw c.refusal.ensures (refused c.args.text.now c.in-Err.stop c.in-Err.ensures)

pub returns-in-Err-clause-exact : goal.returns-in-Err-clause-exact
returns-in-Err-clause-exact c = rw c.refusal.ensures (stopped-exact c.args.text.now c.in-Err.stop c.in-Err.ensures)

pub returns-in-Ok-clause-values : goal.returns-in-Ok-clause-values
returns-in-Ok-clause-values c = read-values c.args.text.now c.in-Ok.values c.in-Ok.field-0-1.now c.in-Ok.ensures c.requires.scalars c.requires.within
