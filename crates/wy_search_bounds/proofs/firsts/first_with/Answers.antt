use Rattle.std.proofs.Common.{arith}
use Rattle.wy_search_bounds.proofs.TakingLemmas.{first_now, first_later, first_never}
use Rattle.wy_search_bounds.proofs.firsts.first_with.Goals as goal

pub returns-then-m-l : goal.returns-then-m-l
returns-then-m-l c = first_now c.args.labels.now c.loop-m.m-index c.args.l c.loop-m.found _ c.loop-m-test.true c.if-m-l.true c.loop-m.invariant

pub loop-m-preserved : goal.loop-m-preserved
loop-m-preserved c = first_later c.args.labels.now c.loop-m.m-index c.args.l c.loop-m.found _ _ c.loop-m-test.true c.if-m-l.false (omega arith) c.loop-m.invariant

pub returns : goal.returns
returns c = first_never c.args.labels.now c.loop-m.m-index c.args.l c.loop-m.found _ (omega arith) c.loop-m.invariant
