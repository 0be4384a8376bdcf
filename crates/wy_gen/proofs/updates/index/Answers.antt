use Rattle.wy_gen.proofs.UpdateLemmas.{index_made}
use Rattle.wy_gen.proofs.updates.index.Goals as goal

pub returns-in_ok-made-in-Index-clause-value : goal.returns-in_ok-made-in-Index-clause-value
returns-in_ok-made-in-Index-clause-value c = λ path b s old place_is live_is made_is.
    index_made c.args.context.now c.args.step.now c.in-Index.index path c.args.place b s c.args.behind.made.live c.in_ok-here-in-Index.here c.args.behind.here old c.args.behind.made.steps c.in_ok-made-in-Index.made.steps c.in-Index.is place_is c.in_ok-here-in-Index.ensures.value live_is made_is c.in_ok-made-in-Index.ensures.value
