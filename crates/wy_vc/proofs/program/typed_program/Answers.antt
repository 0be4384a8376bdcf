use Rattle.wy_vc.proofs.NumberLemmas.{setting_if}
use Rattle.wy_flow_spec.specs.typing.TypedPrograms.{flow_of}
use Rattle.wy_vc.proofs.program.typed_program.Goals as goal

pub returns-clause-setting : goal.returns-clause-setting
returns-clause-setting c = setting_if c.args.core.now (flow_of c.args.typed.now) c.in_ok-marks.marks.items c.program_of.result c.in_ok-marks.ensures.value c.program_of.ensures.numbers
