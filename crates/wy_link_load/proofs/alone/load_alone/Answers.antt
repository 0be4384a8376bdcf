use Rattle.wy_top_answers.proofs.StepLemmas.{ends_there, goes}
use Rattle.wy_link_load.specs.Alone.{takes}
use Rattle.wy_link_load.specs.Loading.{loads}
use Rattle.wy_link_load.proofs.alone.load_alone.Goals as goal

pub returns-in-Ok-clause-gives : goal.returns-in-Ok-clause-gives
returns-in-Ok-clause-gives g c = λ s during. goes s (loads s c.args.name.now) (λ sources. takes sources.source) c.in-Ok.sources c.taken.result (c.in-Ok.ensures.gives s during) (c.taken.ensures.gives s)

pub returns-in-Err-clause-gives : goal.returns-in-Err-clause-gives
returns-in-Err-clause-gives g c = λ s during. ends_there s (loads s c.args.name.now) (λ sources. takes sources.source) c.in-Err.answer (c.in-Err.ensures.gives s during)
