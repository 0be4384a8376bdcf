use Rattle.std.proofs.Common.{◌≡◌, ◌≤◌, length, take}
use Rattle.wy_check_nodes.specs.fronts.Front.{IsFront}
use Rattle.wy_check_nodes.proofs.fronts.front.keep_first.Given as goal

-- so many hypotheses are left, the first ones
abbrev pub invariant-loop-left : goal.invariant-loop-left
invariant-loop-left l = record {
  within : l.count ≤ l.left;
  fits : l.left ≤ length l.fn.front.hyps.items;
  hyps : l.front.hyps.items ≡ take l.left l.fn.front.hyps.items;
  front : IsFront l.terms l.front;
}

abbrev pub decreases-loop-left : goal.decreases-loop-left
decreases-loop-left l = l.left
