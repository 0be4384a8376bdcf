use Rattle.wy_link_load.proofs.WalkLemmas.{behind_gives, behind_stops}
use Rattle.wy_link_load.proofs.loading.load_behind.Goals as goal

pub returns-in-Ok-load_imports-clause-gives : goal.returns-in-Ok-load_imports-clause-gives
returns-in-Ok-load_imports-clause-gives g c = λ s during.
    let begun = c.in-Ok.loading in
    behind_gives s c.args.source begun.stack begun.finished c.in-Ok-load_imports.loading.finished c.in-Ok.ensures.value.1 c.in-Ok.ensures.value.0 (c.in-Ok-load_imports.ensures.gives s during)

pub returns-in-Err-load_imports-clause-gives : goal.returns-in-Err-load_imports-clause-gives
returns-in-Err-load_imports-clause-gives g c = λ s during.
    let begun = c.in-Ok.loading in
    behind_stops s c.args.source begun.stack begun.finished c.in-Err-load_imports.answer c.in-Ok.ensures.value.1 c.in-Ok.ensures.value.0 (c.in-Err-load_imports.ensures.gives s during)
