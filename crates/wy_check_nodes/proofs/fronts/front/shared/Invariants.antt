use Rattle.std.proofs.Common.{◌≡◌, ◌≤◌, ◌-◌, length, take}
use Rattle.wy_check_nodes.proofs.fronts.front.shared.Given as goal

-- so far they are the same
abbrev pub invariant-loop-count : goal.invariant-loop-count
invariant-loop-count l = record {
  same : take l.count l.first ≡ take l.count l.second;
  first : l.count ≤ length l.first;
  second : l.count ≤ length l.second;
}

abbrev pub decreases-loop-count : goal.decreases-loop-count
decreases-loop-count l = length l.first - l.count
