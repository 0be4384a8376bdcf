use Rattle.std.proofs.Common.{nat_eq}
use Rattle.std.specs.HashSet.{contains}
use Rattle.wy_check_splits.proofs.CommonLemmas.{number_put}
use Rattle.wy_check_splits.proofs.meeting.set_of.Goals as goal

pub loop-t-preserved : goal.loop-t-preserved
loop-t-preserved c = λ t. number_put c.args.ts.now c.loop-t.t-index t (contains nat_eq c.loop-t.set t) (contains nat_eq c.insert.new.self t) c.loop-t-test.true (c.in_ok-insert.ensures.updates.0 t) (c.loop-t.invariant t)
