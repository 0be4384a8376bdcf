-- Whole lines of a text.
use Rattle.std.specs.Prelude.{◌≡◌, ℕ, List, [], ◌∷◌, ◌++◌, Bool, not, ◌==◌, length}
use Rattle.wy_data.specs.scan.Front.{AllPass}

-- no line end
abbrev pub is_inside : ℕ → Bool
is_inside b = not (b == 10)

-- no line of the text has its end
abbrev pub NoLine : List ℕ → Type 0
NoLine text = AllPass is_inside text

-- this follows the text's first line and its end
pub record IsLineAt (text rest : List ℕ) : Type 0 where
  pub line : List ℕ
  pub inside : AllPass is_inside line
  pub is : text ≡ line ++ 10 ∷ rest

-- no line has an end inside
abbrev pub AreInside : List (List ℕ) → Type 0
AreInside [] = Unit {0}
AreInside (l ∷ ls) = AllPass is_inside l × AreInside ls

-- the lines, one behind the other, each with its end
abbrev pub lines_text : List (List ℕ) → List ℕ
lines_text [] = []
lines_text (l ∷ ls) = l ++ 10 ∷ lines_text ls

-- the bytes are so many lines, each with its end
pub record AreLines (count : ℕ) (bytes : List ℕ) : Type 0 where
  pub lines : List (List ℕ)
  pub inside : AreInside lines
  pub many : length lines ≡ count
  pub is : bytes ≡ lines_text lines

-- the text begins with so many lines, and this follows
pub record AreLinesAt (count : ℕ) (text front rest : List ℕ) : Type 0 where
  pub lines : AreLines count front
  pub is : text ≡ front ++ rest

abbrev pub NoLines : ℕ → List ℕ → Type 0
NoLines count text = (front rest : List ℕ) → AreLinesAt count text front rest → ⊥
