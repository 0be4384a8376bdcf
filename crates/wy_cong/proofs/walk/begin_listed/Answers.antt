use Rattle.std.proofs.Common.{nat_eq}
use Rattle.std.specs.HashSet.{contains}
use Rattle.wy_cong.proofs.BegunLemmas.{begin_more}
use Rattle.wy_cong.proofs.walk.begin_listed.Goals as goal

pub loop-i-preserved : goal.loop-i-preserved
loop-i-preserved c = begin_more (contains nat_eq c.args.begun.now) (contains nat_eq c.loop-i.begun) (contains nat_eq c.begin_held.new.begun) c.args.found.now.keys.items c.loop-i.i c.listed_at-k.result c.listed_at-k.ensures c.loop-i.invariant c.in_ok-begin_held.ensures
