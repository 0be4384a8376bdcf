use Rattle.std.proofs.Common.{◌≤◌, length, rules}
use Rattle.wy_mach.proofs.LongestLemmas.{instrs_more, all_instrs}
use Rattle.wy_mach.proofs.starting.longest_path.Goals as goal

pub loop-i-preserved : goal.loop-i-preserved
loop-i-preserved c = instrs_more c.args.body.now c.loop-i.i c.loop-i.most c.longer-most.result c.index-body-i.result c.index-body-i.is c.longer-most.ensures.more c.longer-most.ensures.fits c.loop-i.invariant

pub returns : goal.returns
returns c =
    let past : length c.args.body.now ≤ c.loop-i.i = search rules in
    all_instrs c.args.body.now c.loop-i.i c.loop-i.most past c.loop-i.invariant
