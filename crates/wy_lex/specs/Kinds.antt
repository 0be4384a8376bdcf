-- Which words and symbols there are, and what they do to lines and brackets.
use Rattle.std.specs.Prelude.{ℕ, ◌+◌, ◌-◌, ◌==◌, ◌&&◌, nat_le, ℤ, pos, Bool, true, false, Option, Some, None, List, [], ◌∷◌, suc, slice_index_or, if◌then◌else◌}
use Rattle.std.specs.Str.{bytes_eq}
use Rattle.wy_data.specs.Words.{keywords}
use Rattle.wy_lex.specs.declared.token.TokenKind.{TokenKind}
use Rattle.wy_lex.specs.declared.token.TokenKind.TheVariants as k
use Rattle.wy_lex.specs.declared.symbol.Character.{Character}
use Rattle.wy_lex.specs.declared.symbol.Character.TheVariants as class
use Rattle.wy_lex.specs.Symbols.{is_digit}
use Rattle.wy_reading.specs.ListGrammar.{number_from}

-- ---- words

-- the kinds of the words of the language, in the order in which they are listed
abbrev pub word_kinds : List TokenKind
word_kinds =
    k.TypeWord ∷ k.Is ∷ k.Where ∷ k.Function ∷ k.Method ∷ k.Property ∷ k.Requires ∷ k.Ensures
    ∷ k.If ∷ k.Else ∷ k.While ∷ k.Do ∷ k.Switch ∷ k.Case ∷ k.Default ∷ k.For ∷ k.In
    ∷ k.Return ∷ k.Break ∷ k.Continue ∷ k.Assert ∷ k.Fail ∷ k.Skip ∷ k.All ∷ k.Some
    ∷ k.Null ∷ k.Bool ∷ k.Int ∷ k.Any ∷ k.Void ∷ k.True ∷ k.False ∷ k.Import ∷ []

-- the kind that stands where the word stands in the list, counted from n; a word that doesn't is a name
abbrev pub kind_from : ℕ → List (List ℕ) → List ℕ → TokenKind
kind_from n [] word = k.Name word
kind_from n (w ∷ ws) word = if bytes_eq w word then slice_index_or word_kinds n k.End else kind_from (suc n) ws word

unfoldable pub word_kind : List ℕ → TokenKind
word_kind word = kind_from 0 keywords word

-- a line that begins so continues the line before it
abbrev pub continues : TokenKind → Bool
continues k.Requires = true
continues k.Ensures = true
continues k.Where = true
continues _ = false

-- ---- numerals

abbrev pub all_digits : List ℕ → Bool
all_digits [] = true
all_digits (c ∷ cs) = is_digit c && all_digits cs

-- 2^95, the greatest number that a numeral may write
abbrev pub greatest : ℕ
greatest = 39614081257132168796771975168

-- digits alone, and no greater number
abbrev pub is_numeral : List ℕ → Bool
is_numeral w = nat_le (number_from 0 w) greatest && all_digits w

abbrev pub numeral : List ℕ → ℤ
numeral w = pos (number_from 0 w)

-- ---- strings

-- the code that is meant by a backslash and the character
abbrev pub escaped : ℕ → Option ℕ
escaped c = if c == 110 then Some 10 else if c == 116 then Some 9 else if c == 92 then Some 92 else if c == 34 then Some 34 else None

-- ---- symbols

-- the symbol of one character
abbrev pub single : ℕ → TokenKind
single c =
    if c == 40 then k.OpenParen else if c == 41 then k.CloseParen
    else if c == 91 then k.OpenBracket else if c == 93 then k.CloseBracket
    else if c == 123 then k.OpenBrace else if c == 125 then k.CloseBrace
    else if c == 44 then k.Comma else if c == 58 then k.Colon else if c == 59 then k.Semicolon
    else if c == 46 then k.Dot else if c == 61 then k.Assign else if c == 33 then k.Not
    else if c == 60 then k.Less else if c == 62 then k.Greater
    else if c == 43 then k.Plus else if c == 45 then k.Minus else if c == 42 then k.Star else if c == 37 then k.Percent
    else if c == 38 then k.Ampersand else k.Bar

-- what makes a symbol of two characters of it: .. -> == != <= >= && ||
abbrev pub second : ℕ → Character
second c =
    if c == 46 then class.Is 46 else if c == 45 then class.Is 62
    else if c == 61 then class.Is 61 else if c == 33 then class.Is 61 else if c == 60 then class.Is 61 else if c == 62 then class.Is 61
    else if c == 38 then class.Is 38 else if c == 124 then class.Is 124
    else class.Nothing

-- the symbol of two characters that the first begins
abbrev pub double : ℕ → TokenKind
double c =
    if c == 46 then k.Range else if c == 45 then k.Arrow
    else if c == 61 then k.Equal else if c == 33 then k.NotEqual else if c == 60 then k.LessEqual else if c == 62 then k.GreaterEqual
    else if c == 38 then k.And else k.Or

-- what makes a symbol of three characters of that: ==>
abbrev pub third : ℕ → Character
third c = if c == 61 then class.Is 62 else class.Nothing

abbrev pub triple : TokenKind
triple = k.Implies

-- ---- brackets

-- how deep in brackets the next token stands, where this one stands so deep
abbrev pub depth_after : TokenKind → ℕ → ℕ
depth_after k.OpenParen d = d + 1
depth_after k.OpenBracket d = d + 1
depth_after k.OpenBrace d = d + 1
depth_after k.CloseParen d = d - 1
depth_after k.CloseBracket d = d - 1
depth_after k.CloseBrace d = d - 1
depth_after _ d = d

abbrev pub is_colon : TokenKind → Bool
is_colon k.Colon = true
is_colon _ = false
