-- The readers of a source: the rules of the grammar as steps, with the branches taken by the first character.
use Rattle.std.specs.Prelude.{ℕ, Bool, true, false, ◌&&◌, Option, Some, None, Ok, List, [], ◌∷◌, ◌++◌, drop, Result, if◌then◌else◌}
use Rattle.wy_reading.specs.Mode.{Mode}
use Rattle.wy_reading.specs.Rule.{heads, lax}
use Rattle.wy_reading.specs.Reader.{Reader, ◌>>=◌, pure, finish, one, branch, while, refused, checked, letter, word, skip, whole}
use Rattle.wy_lex.specs.declared.fault.Kind.{Kind}
use Rattle.wy_lex.specs.declared.fault.Kind.TheVariants.{BadEscape, BadIndent, BadNumeral, OpenComment}
use Rattle.wy_lex.specs.declared.token.Token.{Token}
use Rattle.wy_lex.specs.declared.token.TokenKind.TheVariants as k
use Rattle.wy_lex.specs.declared.symbol.Symbol.{Symbol}
use Rattle.wy_lex.specs.declared.symbol.Character.TheVariants as class
use Rattle.wy_lex.specs.declared.lexeme.Lexeme.{Lexeme}
use Rattle.wy_lex.specs.declared.comment.Solidus.{Solidus}
use Rattle.wy_lex.specs.declared.comment.Solidus.TheVariants as solidus
use Rattle.wy_lex.specs.declared.layout.State.{State}
use Rattle.wy_lex.specs.Symbols.{holds, codes_of, bytes_of, place}
use Rattle.wy_lex.specs.Kinds.{word_kind, numeral, single, second, double, third, triple}
use Rattle.wy_lex.specs.Layout.{may_stand, first_state, placed, broken, passed, finished}
use Rattle.wy_lex.specs.Grammar.{is, lexeme, stands, is_number, means, meant, code_or_zero, placed_at, is_closed, may_be, struck}

abbrev pub Q : Type 0 → Type 0
Q A = Reader Symbol Kind A

unfoldable pub word_piece : Bool → State → Q State
word_piece strict s =
    checked (lax strict (stands s)) BadIndent (word (holds class.Start) (holds class.Part)) >>= (λ w. pure (placed s (word_kind (bytes_of w)) (place w) class.Part))

unfoldable pub numeral_lexeme : Bool → Q Lexeme
numeral_lexeme strict =
    checked (lax strict is_number) BadNumeral (word (holds class.Digit) (holds class.Part)) >>= (λ w. pure (lexeme (k.Numeral (numeral (codes_of w))) (place w) class.Part))

abbrev pub behind : Q (Option ℕ)
behind = branch (holds class.Any) (one (holds class.Any) >>= (λ c. pure (Some c.character))) (finish >>= (λ x. pure None))

unfoldable pub escape : Q ℕ
escape = checked means BadEscape (one (is 92) >>= (λ b. behind)) >>= (λ e. pure (code_or_zero (meant e)))

unfoldable pub unit_of : Q ℕ
unit_of = branch (holds class.Plain) (one (holds class.Plain) >>= (λ c. pure c.character)) escape

abbrev pub further : List ℕ → Q (List ℕ)
further codes = unit_of >>= (λ c. pure (codes ++ c ∷ []))

unfoldable pub inside : Q (List ℕ)
inside = while (holds class.Inside) further []

unfoldable pub text : Q Lexeme
text = one (is 34) >>= (λ quote. inside >>= (λ codes. one (is 34) >>= (λ close. pure (lexeme (k.Text codes) quote.at class.Nothing))))

unfoldable pub sign : Q Lexeme
sign =
    one (holds class.Sign) >>= (λ c.
    branch (holds (second c.character))
    (one (holds (second c.character)) >>= (λ d.
    branch (holds (third c.character)) (one (holds (third c.character)) >>= (λ e. pure (lexeme triple c.at class.Nothing)))
    (pure (lexeme (double c.character) c.at (third c.character)))))
    (pure (lexeme (single c.character) c.at (second c.character))))

unfoldable pub other : Bool → Q Lexeme
other strict = branch (holds class.Digit) (numeral_lexeme strict) (branch (is 34) text sign)

unfoldable pub other_piece : Bool → Bool → State → Q State → Q State
other_piece true strict s p = branch (holds class.Other) (other strict >>= (λ l. pure (placed_at s l))) p
other_piece false strict s p = branch (holds class.Other) (refused (holds class.Other) BadIndent) p

-- what stands behind the first `*/`
abbrev pub behind_close : List Symbol → Option (List Symbol)
behind_close [] = None
behind_close (s ∷ i) = if is 42 s && heads (is 47) i then Some (drop 1 i) else behind_close i

abbrev pub closing : Option (List Symbol) → Result (Solidus × List Symbol) (Rattle.wy_reading.specs.declared.stop.Stop.Stop Kind)
closing None = Ok (solidus.Open, [])
closing (Some rest) = Ok (solidus.Block, rest)

unfoldable pub closed : Q Solidus
closed i = closing (behind_close i)

unfoldable pub stroke : Q (Solidus × ℕ)
stroke =
    one (is 47) >>= (λ first.
    branch (is 47) (one (is 47) >>= (λ s. skip (holds class.NoLineEnd) >>= (λ x. pure (solidus.Line, first.at))))
    (branch (is 42) (one (is 42) >>= (λ s. closed >>= (λ v. pure (v, first.at))))
    (pure (solidus.Sign, first.at))))

unfoldable pub slash : Q (Solidus × ℕ)
slash = checked is_closed OpenComment stroke

unfoldable pub slash_piece : Bool → State → Q State
slash_piece strict s = checked (lax strict (may_be s)) BadIndent slash >>= (λ v. pure (struck s v))

unfoldable pub blanks : Q (List Symbol)
blanks = while (holds class.Blank) (letter (holds class.Blank)) []

unfoldable pub gap : State → Q State
gap s = one (holds class.Blank) >>= (λ b. skip (holds class.Blank) >>= (λ x. pure (passed s class.Blank)))

unfoldable pub break_piece : State → Q State
break_piece s = one (holds class.LineEnd) >>= (λ e. blanks >>= (λ w. pure (broken s e.at (bytes_of w))))

unfoldable pub piece : Bool → State → Q State
piece strict s =
    branch (holds class.Start) (word_piece strict s)
    (other_piece (lax strict may_stand s) strict s
    (branch (is 47) (slash_piece strict s)
    (branch (holds class.Blank) (gap s)
    (break_piece s))))

unfoldable pub pieces : Bool → State → Q State
pieces strict s = while (holds class.Piece) (piece strict) s

unfoldable pub source : ℕ → Mode → Q (List Token)
source size m = whole (blanks >>= (λ w. pieces m.strict (first_state (bytes_of w)) >>= (λ s. pure (finished s size))))
