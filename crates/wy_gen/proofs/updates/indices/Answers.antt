use Rattle.std.proofs.Common.{drop, map, arith}
use Rattle.wy_core.specs.CoreSeen.{seen_step}
use Rattle.wy_gen.proofs.UpdateLemmas.{turn_place, turn_live, turn_steps, turn_read}
use Rattle.wy_gen.proofs.updates.indices.Goals as goal

pub loop-left-preserved : goal.loop-left-preserved
loop-left-preserved c =
    let l = c.loop-left in
    let path = c.args.path.now in
    let x = c.index-path-left.result in
    let made = c.in_ok-indexed.indexed in
    record {
      within = omega (arith, l.invariant.within);
      place = turn_place c.args.context.now path l.left x c.loop-left-test.true l.invariant.within c.index-path-left.is made.here l.indexed.here c.in_ok-end.end l.invariant.place c.in_ok-indexed.ensures.here;
      live = turn_live c.args.context.now path l.left x c.loop-left-test.true l.invariant.within c.index-path-left.is l.indexed.made.live c.args.behind.live made.made.live l.invariant.live c.in_ok-indexed.ensures.live;
      value = λ s ps_is.
          turn_steps c.args.context.now path l.left x c.loop-left-test.true l.invariant.within c.index-path-left.is made.here c.args.behind.live s c.args.behind.steps made.made.steps
          (c.in_ok-indexed.ensures.value (map seen_step (drop l.left path)) c.args.behind.live s c.args.behind.steps
          (turn_read c.args.context.now path l.left x c.loop-left-test.true l.invariant.within c.index-path-left.is c.args.places.now c.place_at-place.result s c.place_at-place.ensures.value ps_is) l.invariant.live (l.invariant.value s ps_is));
    }
