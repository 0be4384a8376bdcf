use Rattle.wy_link_load.proofs.WalkLemmas.{popped}
use Rattle.wy_link_load.proofs.loading.closed.Goals as goal

pub returns-in-Ok-clause-stack : goal.returns-in-Ok-clause-stack
returns-in-Ok-clause-stack c = λ outer name is. popped c.args.inside.stack c.pop-name.new.self c.pop-name.result c.pop-name.ensures outer name is
