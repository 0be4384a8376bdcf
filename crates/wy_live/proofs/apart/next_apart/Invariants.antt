use Rattle.std.proofs.Common.{◌≡◌, ◌-◌, ◌/◌, ◌≤◌, ◌<◌, ℕ, true, length, take}
use Rattle.wy_live.specs.Words.{in_words, place_at}
use Rattle.wy_live.proofs.apart.next_apart.Given as goal

-- what is passed of the one is in the other
abbrev pub invariant-loop-i : goal.invariant-loop-i
invariant-loop-i l = record {
  one_within : l.i ≤ length l.one;
  other_within : l.j ≤ length l.other;
  behind : (m : ℕ) → l.i ≤ m → m < length l.one → l.from / 64 ≤ place_at l.one m;
  before : (k m : ℕ) → k < l.j → l.i ≤ m → m < length l.one → place_at l.other k < place_at l.one m;
  passed : (x : ℕ) → l.from ≤ x → in_words (take l.i l.one) x ≡ true → in_words l.other x ≡ true;
}

abbrev pub decreases-loop-i : goal.decreases-loop-i
decreases-loop-i l = length l.one - l.i
