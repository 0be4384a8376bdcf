-- The first variable that is in the one list of words and not in the other.
use Rattle.std.specs.Prelude.{◌≡◌, ◌<◌, ◌≤◌, ◌+◌, ◌*◌, ℕ, true, false, List}
use Rattle.wy_live.specs.declared.words.Word.{Word}
use Rattle.wy_live.specs.Words.{in_words}

-- it is in the one and not in the other, and so is none between
pub record IsNext (one other : List Word) (from x : ℕ) : Type 0 where
  pub behind : from ≤ x
  pub in_one : in_words one x ≡ true
  pub not_in_other : in_words other x ≡ false
  pub between : (y : ℕ) → from ≤ y → y < x → in_words one y ≡ true → in_words other y ≡ true

-- the bits of the word at this place from which on no variable is before this one
pub record IsLeast (place from least : ℕ) : Type 0 where
  pub within : least < 64
  pub behind : (k : ℕ) → k < 64 → least ≤ k → from ≤ place * 64 + k
  pub before : (k : ℕ) → k < 64 → from ≤ place * 64 + k → least ≤ k
