use Rattle.std.proofs.Common.{◌≡◌, ◌≤◌, ◌<◌, ◌+◌, ◌-◌, ◌||◌, ℕ, length, drop}
use Rattle.wy_live.specs.Words.{in_words, place_at, InOrder}
use Rattle.wy_live.proofs.merges.merged.Given as goal

-- what is made so far is before what is left of both
abbrev pub invariant-loop-i : goal.invariant-loop-i
invariant-loop-i l = record {
  one_within : l.i ≤ length l.one;
  other_within : l.j ≤ length l.other;
  order : InOrder l.made.items;
  before_one : (k m : ℕ) → k < length l.made.items → l.i ≤ m → m < length l.one → place_at l.made.items k < place_at l.one m;
  before_other : (k m : ℕ) → k < length l.made.items → l.j ≤ m → m < length l.other → place_at l.made.items k < place_at l.other m;
  value : (x : ℕ) → (in_words l.made.items x || (in_words (drop l.i l.one) x || in_words (drop l.j l.other) x)) ≡ (in_words l.one x || in_words l.other x);
}

abbrev pub decreases-loop-i : goal.decreases-loop-i
decreases-loop-i l = (length l.one + length l.other) - (l.i + l.j)
