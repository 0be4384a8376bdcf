use Rattle.std.proofs.Common.{◌-◌, ◌≤◌, length}
use Rattle.wy_parse_front.specs.lines.Starts.{LastIsBefore, NextIsBehind}
use Rattle.wy_parse_front.proofs.lines.starts.Lines.started.Given as goal

-- the number is between the two
abbrev pub invariant-loop-low : goal.invariant-loop-low
invariant-loop-low l = record {
  order : l.low ≤ l.high;
  bound : l.high ≤ length l.self.starts.items;
  before : LastIsBefore l.self.starts.items l.low l.at;
  behind : NextIsBehind l.self.starts.items l.high l.at;
}

abbrev pub decreases-loop-low : goal.decreases-loop-low
decreases-loop-low l = l.high - l.low
