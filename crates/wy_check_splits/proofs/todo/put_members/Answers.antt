use Rattle.wy_check_splits.specs.Walk.{any_over}
use Rattle.wy_check_splits.proofs.WalkLemmas.{member_more, member_below, below_put}
use Rattle.wy_check_splits.proofs.todo.put_members.Goals as goal

pub loop-i-preserved : goal.loop-i-preserved
loop-i-preserved c = record {
  value = λ test. member_more test c.args.set.now.keys c.loop-i.i c.nth-member.result c.loop-i.todo.keys c.insert.new.self.keys (any_over test c.args.todo.now.keys) c.nth-member.ensures c.in_ok-insert.ensures.keys (c.loop-i.invariant.value test);
  below = λ n all start. below_put n c.loop-i.todo.keys c.insert.new.self.keys c.nth-member.result.0 c.in_ok-insert.ensures.keys (member_below n c.args.set.now.keys c.loop-i.i c.nth-member.result c.nth-member.ensures all) (c.loop-i.invariant.below n all start);
}
