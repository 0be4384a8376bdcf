use Rattle.std.proofs.Common.{◌≡◌, ◌≤◌, ◌-◌}
use Rattle.wy_mach.specs.States.{IsMachine}
use Rattle.wy_mach.specs.SharedTurns.{FollowsAlong}
use Rattle.wy_mach.proofs.RunLemmas.{Follows}
use Rattle.wy_mach.proofs.runs.turns.Given as goal

abbrev pub invariant-loop-i : goal.invariant-loop-i
invariant-loop-i g l = record {
  is : IsMachine l.code l.machine;
  follows : Follows l.code l.fn.machine l.machine (g.O.Sink.taken l.fn.out) (g.O.Sink.taken l.out) l.steps (l.steps - l.i);
  along : FollowsAlong l.code l.i l.fn.machine l.machine;
  has_result : l.machine.has_result ≡ l.fn.machine.has_result;
  faults : g.O.Sink.faults l.fn.out ≤ g.O.Sink.faults l.out;
}
