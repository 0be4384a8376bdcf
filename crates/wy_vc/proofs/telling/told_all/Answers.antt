use Rattle.std.proofs.Common.{Bool, List, subst, sym}
use Rattle.wy_vc.specs.Tested.{AreQuiet}
use Rattle.wy_vc.proofs.ToldLemmas.{goal_at, telling_begin, telling_turn}
use Rattle.wy_vc.proofs.telling.told_all.Goals as goal

pub loop-goal-init : goal.loop-goal-init
loop-goal-init c = (c.requires.goals, c.nothing_stands-standing.ensures.stands c.args.terms.now, λ s are. telling_begin c.args.terms.now s c.args.goals.items c.new-list.result.items c.new-list.ensures.items)

pub told-requires : goal.told-requires
told-requires c = record {
  goal = (goal_at c.args.terms.now c.loop-goal.left.items c.pop.new.self.items c.in-Some.goal c.in-Some.ensures.items c.loop-goal.invariant.0).0;
  quiet = subst (λ (l : List Bool). AreQuiet c.args.terms.now l) (sym c.as_slice.ensures.value) c.in_ok-testing.ensures.quiet;
  stands = c.loop-goal.invariant.1;
}

pub loop-goal-preserved : goal.loop-goal-preserved
loop-goal-preserved c = (
  (goal_at c.args.terms.now c.loop-goal.left.items c.pop.new.self.items c.in-Some.goal c.in-Some.ensures.items c.loop-goal.invariant.0).1,
  c.in_ok-cond.ensures.stands,
  λ s are. telling_turn c.args.terms.now s c.loop-goal.left.items c.pop.new.self.items c.args.goals.items c.loop-goal.list.items c.push.new.self.items c.in-Some.goal c.in_ok-cond.cond c.in-Some.ensures.items c.in_ok-push.ensures.items
      (c.in_ok-cond.ensures.within s are) (c.in_ok-cond.ensures.value s are) (c.loop-goal.invariant.2 s are),
)
