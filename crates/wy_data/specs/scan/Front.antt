-- What stands at the front of a text.
use Rattle.std.specs.Prelude.{◌≡◌, ℕ, List, [], ◌∷◌, ◌++◌, Bool, true, false, ◌==◌, ◌&&◌, ◌||◌, nat_le}

abbrev pub is_digit : ℕ → Bool
is_digit b = nat_le 48 b && nat_le b 57

-- a letter, a digit, `_`, or a byte of a character that is not ASCII
abbrev pub is_word_byte : ℕ → Bool
is_word_byte b = (nat_le 97 b && nat_le b 122) || ((nat_le 65 b && nat_le b 90) || (is_digit b || ((b == 95) || nat_le 128 b)))

-- the text begins with a byte that passes
abbrev pub heads : (ℕ → Bool) → List ℕ → Bool
heads test [] = false
heads test (b ∷ i) = test b

-- each byte passes
abbrev pub AllPass : (ℕ → Bool) → List ℕ → Type 0
AllPass test [] = Unit {0}
AllPass test (b ∷ i) = (test b ≡ true) × AllPass test i

-- the bytes that pass from the first on, and what follows
pub record IsRun (test : ℕ → Bool) (text front rest : List ℕ) : Type 0 where
  pub is : text ≡ front ++ rest
  pub passes : AllPass test front
  pub ends : heads test rest ≡ false

-- the text begins with the word, and this follows
pub record IsBehind (word text rest : List ℕ) : Type 0 where
  pub is : text ≡ word ++ rest

abbrev pub NotBehind : List ℕ → List ℕ → Type 0
NotBehind word text = (rest : List ℕ) → IsBehind word text rest → ⊥
