use Rattle.wy_top_source.proofs.CoreLemmas.{core_complete, core_exact, name_complete, name_exact, text_complete, text_exact}
use Rattle.wy_top_source.proofs.reading.read_core.Goals as goal

pub returns-in-Err-clause-complete : goal.returns-in-Err-clause-complete
returns-in-Err-clause-complete c = text_complete c.args.source.now c.in-Err.fault c.in-Err.ensures.reads

pub returns-in-Err-clause-exact : goal.returns-in-Err-clause-exact
returns-in-Err-clause-exact c = text_exact c.args.source.now c.in-Err.fault c.in-Err.ensures.reads c.in-Err.ensures.exact

pub returns-in-Ok-resolve-clause-complete : goal.returns-in-Ok-resolve-clause-complete
returns-in-Ok-resolve-clause-complete c = core_complete c.args.source.now c.in-Ok.program c.in-Ok-resolve.core c.in-Ok.ensures.reads c.in-Ok-resolve.ensures.value

pub returns-in-Ok-resolve-clause-exact : goal.returns-in-Ok-resolve-clause-exact
returns-in-Ok-resolve-clause-exact c = core_exact c.args.source.now c.in-Ok.program c.in-Ok-resolve.core c.in-Ok.ensures.reads c.in-Ok.ensures.exact c.in-Ok-resolve.ensures.value

pub returns-clause-complete : goal.returns-clause-complete
returns-clause-complete c = name_complete c.args.source.now c.in-Ok.program c.in-Err-resolve.fault c.in-Ok.ensures.reads c.in-Err-resolve.ensures.value

pub returns-clause-exact : goal.returns-clause-exact
returns-clause-exact c = name_exact c.args.source.now c.in-Ok.program c.in-Err-resolve.fault c.in-Ok.ensures.reads c.in-Ok.ensures.exact c.in-Err-resolve.ensures.value
