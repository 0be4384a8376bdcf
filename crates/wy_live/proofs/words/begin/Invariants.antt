use Rattle.std.proofs.Common.{◌-◌, ◌≤◌, ◌<◌, ℕ, length}
use Rattle.wy_live.specs.Words.{place_at}
use Rattle.wy_live.proofs.words.begin.Given as goal

-- the index is between the two
abbrev pub invariant-loop-low : goal.invariant-loop-low
invariant-loop-low l = record {
  order : l.low ≤ l.high;
  bound : l.high ≤ length l.words;
  before : (j : ℕ) → j < l.low → place_at l.words j < l.place;
  behind : (j : ℕ) → l.high ≤ j → j < length l.words → l.place ≤ place_at l.words j;
}

abbrev pub decreases-loop-low : goal.decreases-loop-low
decreases-loop-low l = l.high - l.low
