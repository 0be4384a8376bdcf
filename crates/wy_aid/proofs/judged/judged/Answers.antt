use Rattle.std.proofs.Common.{◌<◌, ◌∙◌, length, refl, rules, arith}
use Rattle.wy_aid.proofs.SearchLemmas.{cond_at, goal_below, hyps_below, types_below}
use Rattle.wy_aid.proofs.judged.judged.Goals as goal

pub loop-i-init : goal.loop-i-init
loop-i-init c = record {
  same = refl;
  carried = c.nothing_carried-carried.ensures c.args.terms.now (omega arith);
}

pub search-requires : goal.search-requires
search-requires c =
    let lt : c.loop-i.i < length c.args.conds.now = search rules in
    let own = cond_at c.args.terms.now c.args.conds.now c.loop-i.i c.index-conds-i.result c.requires.conds lt c.index-conds-i.is in
    record {
      hyps = hyps_below c.args.terms.now c.loop-i.terms c.index-conds-i.result c.loop-i.invariant.same own;
      goal = goal_below c.args.terms.now c.loop-i.terms c.index-conds-i.result c.loop-i.invariant.same own;
      types = types_below c.args.terms.now c.loop-i.terms c.index-conds-i.result c.loop-i.invariant.same own;
      carried = c.loop-i.invariant.carried;
    }
