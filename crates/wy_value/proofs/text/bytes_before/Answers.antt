use Rattle.std.proofs.Common.{◌+◌, ◌-◌, length, take, arith}
use Rattle.wy_value.proofs.OffsetLemmas.{bytes-take}
use Rattle.wy_value.proofs.text.bytes_before.Goals as goal

pub loop-c-preserved : goal.loop-c-preserved
loop-c-preserved c =
    let bytes = bytes-take (take (length c.args.text.now - c.args.left) c.args.text.now) c.loop-c.c-index (c.loop-c.c-index + 1) c.c-item.result (omega arith) c.loop-c-test.true c.c-item.is in
    (omega (arith, bytes, c.len_utf8.ensures.len, c.loop-c.invariant.0), omega (arith, c.len_utf8.ensures.upper_bound, c.loop-c.invariant.1))
