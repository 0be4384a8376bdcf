-- Two lists of words, taken one word after the other.
use Rattle.std.specs.Prelude.{◌≡◌, ◌⊎◌, ◌<◌, ◌≤◌, ◌+◌, ℕ, ◌||◌, List, drop, length}
use Rattle.wy_live.specs.declared.merges.Front.{Front}
use Rattle.wy_live.specs.declared.words.Word.{Word}
use Rattle.wy_live.specs.Words.{in_word, in_words, place_at}

-- the first word from i of the one and from j of the other on, and where both go on behind it
pub record IsFront (one other : List Word) (i j : ℕ) (f : Front) : Type 0 where
  pub one_within : f.one ≤ length one
  pub other_within : f.other ≤ length other
  pub moves : i + j < f.one + f.other
  pub one_on : i ≤ f.one
  pub other_on : j ≤ f.other
  pub filled : 0 < f.word.bits
  pub is_one : ((i < length one) × (f.word.place ≡ place_at one i)) ⊎ ((j < length other) × (f.word.place ≡ place_at other j))
  pub before_one : (m : ℕ) → f.one ≤ m → m < length one → f.word.place < place_at one m
  pub before_other : (m : ℕ) → f.other ≤ m → m < length other → f.word.place < place_at other m
  pub value : (x : ℕ) → (in_word f.word x || (in_words (drop f.one one) x || in_words (drop f.other other) x)) ≡ (in_words (drop i one) x || in_words (drop j other) x)
