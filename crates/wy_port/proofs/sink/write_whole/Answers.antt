use Rattle.std.proofs.Common.{arith}
use Rattle.wy_port.proofs.TakenLemmas.{fronts_join}
use Rattle.wy_port.proofs.sink.write_whole.Goals as goal

pub loop-done-preserved : goal.loop-done-preserved
loop-done-preserved g c = record {
  within = omega (arith, c.in_ok-done.ensures.within);
  so_far = fronts_join _ _ _ c.loop-done.done c.in_ok-done.field-0 c.args.bytes.now c.loop-done.invariant.so_far c.in_ok-done.ensures.taken;
  count = omega (arith, c.in_ok-done.ensures.count);
}
