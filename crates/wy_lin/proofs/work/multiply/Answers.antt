use Rattle.std.proofs.Common.{length}
use Rattle.wy_lin.proofs.WorkLemmas.{pushed_over}
use Rattle.wy_lin.proofs.work.multiply.Goals as goal

pub returns-in_ok-push_front-in-Ok-clause-below : goal.returns-in_ok-push_front-in-Ok-clause-below
returns-in_ok-push_front-in-Ok-clause-below c =
    pushed_over (length c.args.terms.now) c.args.forms.items c.pop_front.new.self.items c.push_front.new.self.items c.in-Some.g c.in-Ok.h c.requires.forms c.in-Some.ensures.items c.in-Ok.ensures.below c.in_ok-push_front-in-Ok.ensures.items
