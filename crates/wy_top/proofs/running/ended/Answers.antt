use Rattle.std.proofs.Common.{◌∙◌, ℕ, List, inl, sym, subst}
use Rattle.wy_top_probe.specs.wy_mach_run.declared.end.RunEnd.{RunEnd}
use Rattle.wy_top.specs.Runs.{EndsRun, Reports}
use Rattle.wy_top.proofs.running.ended.Goals as goal

pub returns-in-Ok-clause-ends : goal.returns-in-Ok-clause-ends
returns-in-Ok-clause-ends g c =
    let told = g.E.Sink.taken c.args.err.now in
    let tells = g.E.Sink.taken c.report.new.err in
    let count = g.E.Sink.faults c.args.err.now in
    let counts = g.E.Sink.faults c.report.new.err in
    subst (λ (e : RunEnd). EndsRun c.args.asked e c.report.result told tells count counts) (sym c.in-Done.is)
    (inl (subst (λ (t : List ℕ). Reports 0 t c.report.result told tells count counts) (c.as_bytes.ensures.value ∙ c.in-Ok.ensures.value) c.report.ensures.reports))

pub returns-in-Spent-clause-ends : goal.returns-in-Spent-clause-ends
returns-in-Spent-clause-ends g c =
    let told = g.E.Sink.taken c.args.err.now in
    let tells = g.E.Sink.taken c.report-in-Spent.new.err in
    let count = g.E.Sink.faults c.args.err.now in
    let counts = g.E.Sink.faults c.report-in-Spent.new.err in
    subst (λ (e : RunEnd). EndsRun c.args.asked e c.report-in-Spent.result told tells count counts) (sym c.in-Spent.is)
    (subst (λ (t : List ℕ). Reports 8 t c.report-in-Spent.result told tells count counts) (c.as_bytes-in-Spent.ensures.value ∙ c.steps_spent.ensures.value) c.report-in-Spent.ensures.reports)
