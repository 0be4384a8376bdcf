-- Names of the language at the front of a text.
use Rattle.std.specs.Prelude.{◌≡◌, ℕ, ◌<◌, ◌^◌, List, [], ◌∷◌, ◌++◌, Bool, true, false, ◌&&◌}
use Rattle.std.specs.Fmt.{decimal}
use Rattle.std.specs.Ordering.{is_lt, nat_cmp}
use Rattle.std.specs.Cmp.Lexicographic.{slice_cmp}
use Rattle.wy_data.specs.Words.{IsName}
use Rattle.wy_data.specs.scan.Front.{is_digit, is_word_byte, heads, AllPass}

-- a name of the language. Each of its bytes is a word's, and the first is no digit
pub record IsWord (w : List ℕ) : Type 0 where
  pub name : IsName w
  pub bytes : AllPass is_word_byte w
  pub start : heads is_digit w ≡ false

abbrev pub AreWords : List (List ℕ) → Type 0
AreWords [] = Unit {0}
AreWords (w ∷ ws) = IsWord w × AreWords ws

-- the first stands before the second in the order of bytes
abbrev pub precedes : List ℕ → List ℕ → Bool
precedes a b = is_lt (slice_cmp nat_cmp a b)

-- the names rise from this one on
abbrev pub rise_from : List ℕ → List (List ℕ) → Bool
rise_from a [] = true
rise_from a (b ∷ bs) = precedes a b && rise_from b bs

abbrev pub rises : List (List ℕ) → Bool
rises [] = true
rises (a ∷ bs) = rise_from a bs

-- names of fields: words that rise
pub record AreFields (names : List (List ℕ)) : Type 0 where
  pub words : AreWords names
  pub rise : rises names ≡ true

-- the text begins with the word, no byte of a word more, and this follows
pub record IsWordAt (text w rest : List ℕ) : Type 0 where
  pub is : text ≡ w ++ rest
  pub word : IsWord w
  pub ends : heads is_word_byte rest ≡ false

abbrev pub NoWord : List ℕ → Type 0
NoWord text = (w rest : List ℕ) → IsWordAt text w rest → ⊥

-- the text begins with the word, the sign and the number, no digit more, and this follows
pub record IsNumberedAt (sign : ℕ) (text w : List ℕ) (n : ℕ) (rest : List ℕ) : Type 0 where
  pub is : text ≡ w ++ (sign ∷ (decimal n ++ rest))
  pub word : IsWord w
  pub small : n < 2 ^ 127
  pub ends : heads is_digit rest ≡ false

abbrev pub NoNumbered : ℕ → List ℕ → Type 0
NoNumbered sign text = (w : List ℕ) (n : ℕ) (rest : List ℕ) → IsNumberedAt sign text w n rest → ⊥
