use Rattle.std.proofs.Common.{◌≡◌, ◌≤◌, length, take}
use Rattle.wy_check_nodes.specs.fronts.Front.{IsFront}
use Rattle.wy_check_nodes.proofs.fronts.front.with_rest.Given as goal

-- so many hypotheses are there
abbrev pub invariant-loop-i : goal.invariant-loop-i
invariant-loop-i l = record {
  within : l.i ≤ length l.hyps;
  hyps : l.front.hyps.items ≡ take l.i l.hyps;
  front : IsFront l.terms l.front;
}
