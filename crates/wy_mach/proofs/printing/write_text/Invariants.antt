use Rattle.std.proofs.Common.{◌≡◌, ◌≤◌, ◌-◌, ℕ, List, length, take}
use Rattle.wy_port.specs.Taken.{with_taken}
use Rattle.wy_mach.specs.Texts.{IsText}
use Rattle.wy_mach.proofs.printing.write_text.Given as goal

abbrev pub invariant-loop-start : goal.invariant-loop-start
invariant-loop-start g l = record {
  within : l.start ≤ l.count;
  long : length l.piece ≡ 4096;
  taken : (bytes : List ℕ) → IsText l.heap l.place bytes → g.O.Sink.taken l.out ≡ with_taken (g.O.Sink.taken l.fn.out) (take l.start bytes);
  faults : g.O.Sink.faults l.fn.out ≤ g.O.Sink.faults l.out;
}

abbrev pub decreases-loop-start : goal.decreases-loop-start
decreases-loop-start g l = l.count - l.start
