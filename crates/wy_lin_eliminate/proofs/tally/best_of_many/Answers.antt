use Rattle.std.proofs.Common.{◌≡◌, ◌<◌, ◌+◌, suc, length, None, arith}
use Rattle.wy_lin_eliminate.specs.Variables.{best_from}
use Rattle.wy_lin_eliminate.proofs.TallyLemmas.{best_more}
use Rattle.wy_lin_eliminate.proofs.tally.best_of_many.Goals as goal

pub loop-i-preserved : goal.loop-i-preserved
loop-i-preserved c =
    let es = c.args.found.now.entries in
    let lt : c.loop-i.i < length es = omega (arith, c.len-i-end.ensures.len) in
    let next : c.loop-i.i + 1 ≡ suc c.loop-i.i = omega arith in
    best_more es c.loop-i.i (c.loop-i.i + 1) c.entry_at.result c.loop-i.best c.better-best.result (best_from None es) lt c.entry_at.ensures.value next c.better-best.ensures.value c.loop-i.invariant
