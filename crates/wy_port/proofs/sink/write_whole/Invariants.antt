-- The bytes before `done` were taken, and what is left to write grows smaller.
use Rattle.std.proofs.Common.{length, ◌-◌, ◌≡◌, ◌≤◌, take}
use Rattle.wy_port.specs.Taken.{with_taken}
use Rattle.wy_port.proofs.sink.write_whole.Given as goal

abbrev pub invariant-loop-done : goal.invariant-loop-done
invariant-loop-done g l = record {
  within : l.done ≤ length l.bytes;
  so_far : g.S.Sink.taken l.sink ≡ with_taken (g.S.Sink.taken l.fn.sink) (take l.done l.bytes);
  count : g.S.Sink.faults l.fn.sink ≤ g.S.Sink.faults l.sink;
}

abbrev pub decreases-loop-done : goal.decreases-loop-done
decreases-loop-done g l = length l.bytes - l.done
