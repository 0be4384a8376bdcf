-- The grammar of a source: pieces of it (words, literals, symbols, comments, blanks, line ends), each as long as it can be.
--   source = blanks { piece }
--   piece  = word | numeral | string | symbol | comment | blanks | line end and the blanks behind it
use Rattle.std.specs.Prelude.{◌≡◌, ℕ, Bool, true, false, ◌&&◌, ◌||◌, Option, Some, None, List, [], ◌∷◌, ◌++◌, ◌⊎◌}
use Rattle.wy_reading.specs.Mode.{Mode}
use Rattle.wy_reading.specs.Rule.{Rule, heads, One, Pure, Then, Loop, Or, Finish, Refused, Checked, Unless, Letter, Word, Skip, Whole, lax}
use Rattle.wy_lex.specs.declared.fault.Kind.{Kind}
use Rattle.wy_lex.specs.declared.fault.Kind.TheVariants.{BadEscape, BadIndent, BadNumeral, OpenComment}
use Rattle.wy_lex.specs.declared.token.Token.{Token}
use Rattle.wy_lex.specs.declared.token.TokenKind.{TokenKind}
use Rattle.wy_lex.specs.declared.token.TokenKind.TheVariants as k
use Rattle.wy_lex.specs.declared.symbol.Symbol.{Symbol}
use Rattle.wy_lex.specs.declared.symbol.Character.{Character}
use Rattle.wy_lex.specs.declared.symbol.Character.TheVariants as class
use Rattle.wy_lex.specs.declared.lexeme.Lexeme.{Lexeme}
use Rattle.wy_lex.specs.declared.comment.Solidus.{Solidus}
use Rattle.wy_lex.specs.declared.comment.Solidus.TheVariants as solidus
use Rattle.wy_lex.specs.declared.layout.State.{State}
use Rattle.wy_lex.specs.Symbols.{holds, codes_of, bytes_of, place}
use Rattle.wy_lex.specs.Kinds.{word_kind, continues, is_numeral, numeral, escaped, single, second, double, third, triple}
use Rattle.wy_lex.specs.Layout.{may_stand, first_state, placed, broken, passed, finished}

-- rules over characters with their places
abbrev pub R : Type 0 → Type 1
R A = Rule Symbol Kind A

abbrev pub is : ℕ → Symbol → Bool
is c = holds (class.Is c)

-- a token that was read, and what would lengthen it
abbrev pub lexeme : TokenKind → ℕ → Character → Lexeme
lexeme kind at more = record { kind = kind; at = at; more = more }

-- ---- words

-- a word may stand here, or continues a line
abbrev pub stands : State → List Symbol → Bool
stands s w = may_stand s || continues (word_kind (bytes_of w))

-- behind a word or a numeral stands nothing that would go on with it
abbrev pub NoPart : List Symbol → Type 0
NoPart i = heads (holds class.Part) i ≡ false

-- a word; one that begins a line where none may begin is BadIndent
abbrev pub WordPiece : Bool → State → R State
WordPiece strict s =
    Then (Checked NoPart (lax strict (stands s)) BadIndent (Word (holds class.Start) (holds class.Part)))
    (λ w. Pure (placed s (word_kind (bytes_of w)) (place w) class.Part))

-- ---- numerals

abbrev pub is_number : List Symbol → Bool
is_number w = is_numeral (codes_of w)

-- a numeral; one that is too large, or that runs into a name, is BadNumeral
abbrev pub Numeral : Bool → R Lexeme
Numeral strict =
    Then (Checked NoPart (lax strict is_number) BadNumeral (Word (holds class.Digit) (holds class.Part)))
    (λ w. Pure (lexeme (k.Numeral (numeral (codes_of w))) (place w) class.Part))

-- ---- strings

abbrev pub Anything : List Symbol → Type 0
Anything i = Unit {0}

-- the character behind a backslash, or none at the end
abbrev pub Behind : R (Option ℕ)
Behind = Or (Then (One (holds class.Any)) (λ c. Pure (Some c.character))) (Then Finish (λ x. Pure None))

-- the code that is meant by it
abbrev pub meant : Option ℕ → Option ℕ
meant None = None
meant (Some c) = escaped c

abbrev pub is_escape : Option ℕ → Bool
is_escape None = false
is_escape (Some c) = true

abbrev pub means : Option ℕ → Bool
means e = is_escape (meant e)

abbrev pub code_or_zero : Option ℕ → ℕ
code_or_zero None = 0
code_or_zero (Some c) = c

-- a backslash and what stands behind it; one that begins no escape is BadEscape
abbrev pub Escape : R ℕ
Escape = Then (Checked Anything means BadEscape (Then (One (is 92)) (λ b. Behind))) (λ e. Pure (code_or_zero (meant e)))

-- a character of a string, by its code
abbrev pub UnitOf : R ℕ
UnitOf = Or (Then (One (holds class.Plain)) (λ c. Pure c.character)) Escape

-- one more
abbrev pub Further : List ℕ → R (List ℕ)
Further codes = Then UnitOf (λ c. Pure (codes ++ c ∷ []))

abbrev pub Text : R Lexeme
Text =
    Then (One (is 34)) (λ quote. Then (Loop Further []) (λ codes. Then (One (is 34)) (λ close. Pure (lexeme (k.Text codes) quote.at class.Nothing))))

-- ---- symbols, but for the slash

abbrev pub Sign : R Lexeme
Sign =
    Then (One (holds class.Sign)) (λ c.
    Or (Then (One (holds (second c.character))) (λ d.
    Or (Then (One (holds (third c.character))) (λ e. Pure (lexeme triple c.at class.Nothing)))
    (Pure (lexeme (double c.character) c.at (third c.character)))))
    (Pure (lexeme (single c.character) c.at (second c.character))))

-- a literal or a symbol
abbrev pub Other : Bool → R Lexeme
Other strict = Or (Numeral strict) (Or Text Sign)

abbrev pub placed_at : State → Lexeme → State
placed_at s l = placed s l.kind l.at l.more

-- where a token may stand one that is no word is read; elsewhere it is BadIndent
abbrev pub OtherPiece : Bool → Bool → State → R State → R State
OtherPiece true strict s R = Or (Then (Other strict) (λ l. Pure (placed_at s l))) R
OtherPiece false strict s R = Or (Refused (holds class.Other) BadIndent) R

-- ---- the slash, and comments

-- `*/` stands somewhere
abbrev pub has_close : List Symbol → Bool
has_close [] = false
has_close (s ∷ i) = (is 42 s && heads (is 47) i) || has_close i

-- up to and with the first `*/`, or to the end where there is none
abbrev pub Closed : R Solidus
Closed = record {
  reads = λ i v j.
      ((v ≡ solidus.Block) × (body : List Symbol) × (star slash : Symbol) × (i ≡ body ++ star ∷ slash ∷ j) × (is 42 star ≡ true) × (is 47 slash ≡ true) × (has_close (body ++ star ∷ []) ≡ false))
      ⊎ ((v ≡ solidus.Open) × (j ≡ []) × (has_close i ≡ false));
  meets = λ i x k. ⊥;
}

-- what a slash is
abbrev pub Stroke : R (Solidus × ℕ)
Stroke =
    Then (One (is 47)) (λ first.
    Or (Then (One (is 47)) (λ s. Then (Skip (holds class.NoLineEnd)) (λ x. Pure (solidus.Line, first.at))))
    (Or (Then (One (is 42)) (λ s. Then Closed (λ v. Pure (v, first.at))))
    (Unless (holds class.Remark) (Pure (solidus.Sign, first.at)))))

abbrev pub is_closed : Solidus × ℕ → Bool
is_closed (solidus.Sign, at) = true
is_closed (solidus.Line, at) = true
is_closed (solidus.Block, at) = true
is_closed (solidus.Open, at) = false

-- a comment may stand anywhere
abbrev pub may_be : State → Solidus × ℕ → Bool
may_be s (solidus.Sign, at) = may_stand s
may_be s (solidus.Line, at) = true
may_be s (solidus.Block, at) = true
may_be s (solidus.Open, at) = true

abbrev pub struck : State → Solidus × ℕ → State
struck s (solidus.Sign, at) = placed s k.Slash at class.Remark
struck s (solidus.Line, at) = passed s class.NoLineEnd
struck s (solidus.Block, at) = passed s class.Nothing
struck s (solidus.Open, at) = passed s class.Any

-- a comment without its `*/` is OpenComment, and a slash that begins a line where none may begin is BadIndent
abbrev pub SlashPiece : Bool → State → R State
SlashPiece strict s =
    Then (Checked Anything (lax strict (may_be s)) BadIndent (Checked Anything is_closed OpenComment Stroke)) (λ v. Pure (struck s v))

-- ---- blanks and line ends

-- any number of blanks
abbrev pub Blanks : R (List Symbol)
Blanks = Loop (Letter (holds class.Blank)) []

abbrev pub Gap : State → R State
Gap s = Then (One (holds class.Blank)) (λ b. Then (Skip (holds class.Blank)) (λ x. Pure (passed s class.Blank)))

abbrev pub Break : State → R State
Break s = Then (One (holds class.LineEnd)) (λ e. Then Blanks (λ w. Pure (broken s e.at (bytes_of w))))

-- ---- the source

abbrev pub Piece : Bool → State → R State
Piece strict s =
    Or (WordPiece strict s)
    (OtherPiece (lax strict may_stand s) strict s
    (Or (SlashPiece strict s)
    (Or (Gap s)
    (Break s))))

-- the characters that would lengthen a piece, by what its state says
abbrev pub lengthens : Character → Symbol → Bool
lengthens class.Blank = holds class.Blank
lengthens class.Part = holds class.Part
lengthens class.Remark = holds class.Remark
lengthens class.NoLineEnd = holds class.NoLineEnd
lengthens (class.Is c) = holds (class.Is c)
lengthens _ = λ s. false

-- no piece begins with what would lengthen the one before it
abbrev pub Next : Bool → State → R State
Next strict s = Unless (lengthens s.more) (Piece strict s)

-- the tokens of a source of so many bytes
abbrev pub Source : ℕ → Mode → R (List Token)
Source size m = Whole (Then Blanks (λ w. Then (Loop (Next m.strict) (first_state (bytes_of w))) (λ s. Pure (finished s size))))
