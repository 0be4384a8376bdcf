use Rattle.std.proofs.Common.{get_or}
use Rattle.wy_check_splits.specs.Walk.{any_over}
use Rattle.wy_check_splits.proofs.WalkLemmas.{put_more, below_put}
use Rattle.wy_check_splits.proofs.todo.put_all.Goals as goal

pub loop-part-preserved : goal.loop-part-preserved
loop-part-preserved c = record {
  value = λ test. put_more test c.args.parts.now c.loop-part.part-index c.loop-part.todo.keys c.insert.new.self.keys (any_over test c.args.todo.now.keys) c.loop-part-test.true c.in_ok-insert.ensures.keys (c.loop-part.invariant.value test);
  below = λ n all start. below_put n c.loop-part.todo.keys c.insert.new.self.keys (get_or c.args.parts.now c.loop-part.part-index 0) c.in_ok-insert.ensures.keys (all c.loop-part.part-index 0 c.loop-part-test.true) (c.loop-part.invariant.below n all start);
}
