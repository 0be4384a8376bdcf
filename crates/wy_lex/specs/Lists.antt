-- What holds of each list of tokens: where its end stands, what its words, numerals and strings are, and how its places rise.
use Rattle.std.specs.Prelude.{◌≡◌, ◌≤◌, ℕ, suc, nat_le, pos, Bool, true, false, ◌&&◌, ◌||◌, ◌==◌, List, [], ◌∷◌, ◌++◌, ⊤, if◌then◌else◌}
use Rattle.wy_data.specs.Words.{IsName}
use Rattle.wy_lex.specs.declared.token.Token.{Token}
use Rattle.wy_lex.specs.declared.token.TokenKind.{TokenKind}
use Rattle.wy_lex.specs.declared.token.TokenKind.TheVariants as k
use Rattle.wy_lex.specs.Kinds.{greatest}
use Rattle.wy_lex.specs.Layout.{token}

-- holds of what each token is
abbrev pub Each : (TokenKind → Type 0) → List Token → Type 0
Each P [] = ⊤
Each P (t ∷ ts) = P t.kind × Each P ts

-- ---- the end

abbrev pub is_end : TokenKind → Bool
is_end k.End = true
is_end _ = false

abbrev pub NoEnd : TokenKind → Type 0
NoEnd kind = is_end kind ≡ false

-- `End` stands as the last token, at the place, and nowhere else
pub record EndsAt (place : ℕ) (ts : List Token) : Type 0 where
  pub front : List Token
  pub last : ts ≡ front ++ token k.End place ∷ []
  pub once : Each NoEnd front

-- ---- words, numerals and strings

-- what a string may have: a character from 32 to 126, a tab or a line end
abbrev pub is_text : ℕ → Bool
is_text c = (nat_le 32 c && nat_le c 126) || ((c == 9) || (c == 10))

abbrev pub AllText : List ℕ → Type 0
AllText [] = ⊤
AllText (c ∷ cs) = (is_text c ≡ true) × AllText cs

-- a name is one by the language and none of its words, and a numeral writes no more than it may
abbrev pub IsProper : TokenKind → Type 0
IsProper (k.Name word) = IsName word
IsProper (k.Numeral n) = (number : ℕ) × (n ≡ pos number) × (number ≤ greatest)
IsProper (k.Text codes) = AllText codes
IsProper _ = ⊤

-- ---- places

-- whether a token stands for text; the layout's tokens and the end stand for none
abbrev pub has_text : TokenKind → Bool
has_text k.LineEnd = false
has_text k.BlockIn = false
has_text k.BlockOut = false
has_text k.End = false
has_text _ = true

-- the first place where another token may stand
abbrev pub behind : Token → ℕ
behind t = if has_text t.kind then suc t.at else t.at

-- the tokens stand in order from the one place to the other, and none at the place of one before it that stands for text
abbrev pub Rises : ℕ → ℕ → List Token → Type 0
Rises from to [] = from ≤ to
Rises from to (t ∷ ts) = (from ≤ t.at) × Rises (behind t) to ts
