-- Words of 64 variables each, with their places, as a set of variables.
use Rattle.std.specs.Prelude.{◌≡◌, ◌≢◌, ℕ, zero, suc, ◌/◌, ◌%◌, ◌<◌, ◌≤◌, Bool, false, ◌&&◌, ◌||◌, ◌==◌, List, [], ◌∷◌, ◌++◌, length, slice_index_or}
use Rattle.std.specs.Int.{bit_at}
use Rattle.wy_live.specs.declared.words.Word.{Word}

-- the bit is set
abbrev pub is_set : ℕ → ℕ → Bool
is_set bits i = bit_at bits i == 1

-- the variable is in the word
abbrev pub in_word : Word → ℕ → Bool
in_word w x = (w.place == x / 64) && is_set w.bits (x % 64)

-- the variable is in one of them
abbrev pub in_words : List Word → ℕ → Bool
in_words [] x = false
in_words (w ∷ ws) x = in_word w x || in_words ws x

-- the first so many variables, each whether it is in one of them
abbrev pub shown : List Word → ℕ → List Bool
shown ws zero = []
shown ws (suc n) = shown ws n ++ in_words ws n ∷ []

abbrev pub no_word : Word
no_word = record { place = 0; bits = 0 }

abbrev pub word_at : List Word → ℕ → Word
word_at ws i = slice_index_or ws i no_word

abbrev pub place_at : List Word → ℕ → ℕ
place_at ws i = (slice_index_or ws i no_word).place

abbrev pub bits_at : List Word → ℕ → ℕ
bits_at ws i = (slice_index_or ws i no_word).bits

-- the places ascend, and no word is empty
pub record InOrder (ws : List Word) : Type 0 where
  pub ascending : (i j : ℕ) → i < j → j < length ws → place_at ws i < place_at ws j
  pub filled : (i : ℕ) → i < length ws → 0 < bits_at ws i

-- no variable from n on is in one of them
abbrev pub Within : List Word → ℕ → Type 0
Within ws n = (x : ℕ) → n ≤ x → in_words ws x ≡ false

-- the words before i have smaller places, and those from i on have none
pub record BeginsAt (ws : List Word) (place i : ℕ) : Type 0 where
  pub bound : i ≤ length ws
  pub before : (j : ℕ) → j < i → place_at ws j < place
  pub behind : (j : ℕ) → i ≤ j → j < length ws → place ≤ place_at ws j

-- what a set keeps
pub record Kept (ws : List Word) (n : ℕ) : Type 0 where
  pub order : InOrder ws
  pub within : Within ws n

-- at this place there are these bits, and the others stay
pub record Changed (old new : List Word) (place bits : ℕ) : Type 0 where
  pub here : (x : ℕ) → x / 64 ≡ place → in_words new x ≡ is_set bits (x % 64)
  pub others : (x : ℕ) → x / 64 ≢ place → in_words new x ≡ in_words old x
