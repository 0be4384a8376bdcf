use Rattle.wy_link_load.proofs.FileLemmas.{spelled_fault, spelled_value}
use Rattle.wy_link_load.proofs.file.spelled.Goals as goal

pub returns-in-Ok-clause-gives : goal.returns-in-Ok-clause-gives
returns-in-Ok-clause-gives c = λ s.
    spelled_value s c.args.name c.args.bytes c.as_slice.result.now c.in-Ok.program c.as_slice.ensures.value c.in-Ok.ensures.spells c.in-Ok.ensures.reads c.in-Ok.ensures.exact

pub returns-in-Err-clause-gives : goal.returns-in-Err-clause-gives
returns-in-Err-clause-gives c = λ s.
    spelled_fault s c.args.name c.args.bytes c.as_str.result.now c.as_slice.result.now c.as_slice-in-Err.result.now c.in-Err.fault c.text_answer.result c.as_str.ensures.value c.as_slice.ensures.value c.as_slice-in-Err.ensures.value c.in-Err.ensures.fault c.in-Err.ensures.reads c.in-Err.ensures.exact
    c.text_answer.ensures.value
