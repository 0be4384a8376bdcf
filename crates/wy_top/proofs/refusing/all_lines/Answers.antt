use Rattle.std.proofs.Common.{◌<◌, length, rules, arith}
use Rattle.wy_top.proofs.LineLemmas.{named_index}
use Rattle.wy_top.proofs.refusing.all_lines.Goals as goal

pub put_end-requires : goal.put_end-requires
put_end-requires c =
    let lt : c.loop-i.i < length c.args.conds.now = search rules in
    record { named = named_index c.args.verdicts.now c.loop-i.i c.index-verdicts-i.result c.requires.named (omega (arith, lt, c.requires.each)) }
