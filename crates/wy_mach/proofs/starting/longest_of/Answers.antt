use Rattle.std.proofs.Common.{◌≤◌, length, rules}
use Rattle.wy_mach.proofs.LongestLemmas.{routines_more, all_routines}
use Rattle.wy_mach.proofs.starting.longest_of.Goals as goal

pub loop-f-preserved : goal.loop-f-preserved
loop-f-preserved c = routines_more c.args.routines.now c.loop-f.f c.loop-f.most c.longer_in-most.result c.index-routines-f.result c.index-routines-f.is c.longer_in-most.ensures.more c.longer_in-most.ensures.fits c.loop-f.invariant

pub returns : goal.returns
returns c =
    let past : length c.args.routines.now ≤ c.loop-f.f = search rules in
    all_routines c.args.routines.now c.loop-f.f c.loop-f.most past c.loop-f.invariant
