use Rattle.std.proofs.Common.{subst}
use Rattle.wy_mach.specs.declared.runs.RunEnd.{RunEnd}
use Rattle.wy_mach.specs.Running.{Ran}
use Rattle.wy_mach_run.proofs.CountLemmas.{closed_counts}
use Rattle.wy_mach_run.proofs.WritingLemmas.{closes_so}
use Rattle.wy_mach_run.proofs.running.ended.Goals as goal

pub returns-in-Done-clause-ended : goal.returns-in-Done-clause-ended
returns-in-Done-clause-ended g c = λ wanted st before failed later ran.
    let middle = g.O.Sink.taken c.args.out.now in
    let after = g.O.Sink.taken c.closed.new.out in
    let old = g.O.Sink.faults c.args.out.now in
    let new = g.O.Sink.faults c.closed.new.out in
    closes_so wanted c.in-Done.text c.in-Done.copies c.in-Done.nodes before middle after failed old new st c.closed.result later (subst (λ (e : RunEnd). Ran st wanted before middle failed old e) c.in-Done.is ran) c.closed.ensures.closed

pub returns-in-Done-clause-counts : goal.returns-in-Done-clause-counts
returns-in-Done-clause-counts g c =
    closed_counts c.in-Done.text c.in-Done.copies c.in-Done.nodes _ _ _ _ c.args.end c.closed.result c.in-Done.is c.closed.ensures.closed
