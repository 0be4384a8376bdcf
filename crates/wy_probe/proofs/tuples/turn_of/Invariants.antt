use Rattle.std.proofs.Common.{◌≡◌, ◌≤◌, ◌-◌, ◌*◌, ◌^◌, drop, length, None}
use Rattle.wy_probe.specs.Tuples.{greatest_sum, next_alike, sum_of}
use Rattle.wy_probe.proofs.tuples.turn_of.Given as goal

-- behind the place all turns are done
abbrev pub invariant-loop-turn : goal.invariant-loop-turn
invariant-loop-turn l = record {
  done : next_alike (drop (length l.tuple - l.turn) l.lengths) (drop (length l.tuple - l.turn) l.tuple) ≡ None;
  sum : l.sum ≡ sum_of (drop (length l.tuple - l.turn) l.tuple);
  room : l.room ≡ greatest_sum (drop (length l.tuple - l.turn) l.lengths);
  fits : l.sum ≤ l.room;
  small : l.room ≤ l.turn * 2 ^ 32;
}
