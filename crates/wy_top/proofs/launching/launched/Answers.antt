use Rattle.std.proofs.Common.{ℕ, List, Ok, Err, subst}
use Rattle.wy_top_probe.proofs.wy_mach_run_proofs.CanRunLemmas.{starts_can}
use Rattle.wy_top.proofs.CodeLemmas.{source_loadable}
use Rattle.wy_top_probe.specs.wy_top_answers.Steps.{Gives}
use Rattle.wy_top.specs.Kept.{acceptance_in}
use Rattle.wy_top.specs.Launching.{starts}
use Rattle.wy_top.proofs.LaunchLemmas.{starts_value, starts_fault}
use Rattle.wy_top.proofs.launching.launched.Goals as goal

pub returns-in-Ok-clause-gives : goal.returns-in-Ok-clause-gives
returns-in-Ok-clause-gives c = λ s.
    let a = acceptance_in c.args.accepted in
    subst (λ (t : List ℕ). Gives s (starts c.args.name.now t a) (Ok (record { lines = a.lines; start = c.in-Ok.start }))) c.as_bytes.ensures.value
    (starts_value s c.args.name.now c.as_bytes.result.now a c.in-Ok.start c.in-Ok.ensures.starts c.in-Ok.ensures.complete c.in-Ok.ensures.exact)

pub returns-in-Ok-clause-can : goal.returns-in-Ok-clause-can
returns-in-Ok-clause-can c =
    let source = c.requires.whole.source in
    let p = (acceptance_in c.args.accepted).program in
    let name = c.args.name.now in
    let arguments = c.as_bytes.result.now in
    let start = c.in-Ok.start in
    starts_can p.core name arguments start (source_loadable source.bytes p.core p.flow source.owes.program) c.in-Ok.ensures.starts
    (c.requires.goes source.bytes p.core p.flow source.owes.program c.requires.whole.holds name arguments start c.in-Ok.ensures.starts)

pub returns-clause-gives : goal.returns-clause-gives
returns-clause-gives c = λ s.
    let a = acceptance_in c.args.accepted in
    subst (λ (t : List ℕ). Gives s (starts c.args.name.now t a) (Err c.fault_answer.result)) c.as_bytes.ensures.value
    (starts_fault s c.args.name.now c.as_bytes.result.now a c.in-Err.fault c.fault_answer.result c.in-Err.ensures.refused c.in-Err.ensures.complete c.in-Err.ensures.exact c.fault_answer.ensures.value)
