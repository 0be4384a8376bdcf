use Rattle.wy_flow_spec.specs.typing.TypedPrograms.{core_of}
use Rattle.wy_mach_run.proofs.StartLemmas.{given_complete, given_exact, given_refused, given_starts}
use Rattle.wy_mach_run.proofs.starting.start.Goals as goal

pub returns : goal.returns
returns c =
    let core = core_of c.args.typed.now in
    let name = c.args.name.now in
    let text = c.args.arguments.now in
    let r = c.begun.result in
    let h = c.begun.ensures.gives in
    record { starts = given_starts core name text r h; complete = given_complete core name text r h; refused = given_refused core name text r h; exact = given_exact core name text r h }
