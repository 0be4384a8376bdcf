use Rattle.std.proofs.Common.{nat_eq}
use Rattle.std.specs.HashMap.{get}
use Rattle.wy_check_nodes.proofs.JudgingLemmas.{knows_more}
use Rattle.wy_check_nodes.proofs.judging.note.Goals as goal

pub returns : goal.returns
returns c = λ at ls knows is. knows_more at ls c.args.f c.args.verdict (get nat_eq c.args.known.now.verdicts) (get nat_eq c.insert.new.self) c.in_ok-insert.ensures.updates.0 is knows
