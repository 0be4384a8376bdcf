use Rattle.std.proofs.Common.{refl}
use Rattle.wy_vc_exprs.proofs.StateLemmas.{walks_made}
use Rattle.wy_vc_exprs.proofs.calls.give_nothing.Goals as goal

pub returns-clause-value : goal.returns-clause-value
returns-clause-value c = walks_made c.args.walk.now _ _ _ c.requires.sound c.in_ok-made.ensures.made.kept refl refl refl c.in_ok-made.ensures.made.here
