-- The labels of cases are read exactly.
use Rattle.std.proofs.Common.{◌≡◌, ◌+◌, ℕ, pos, true≢false, List, [], ◌∷◌, ◌++◌, refl, sym, Ok, arith, ne_eqb}
use Rattle.std.specs.Bool.{⊤}
use Rattle.wy_reading.specs.Mode.{Mode}
use Rattle.wy_reading.proofs.Exactness.{Exact, Passes, Lacks, Any}
use Rattle.wy_reading.proofs.Single.{nothing}
use Rattle.wy_reading.proofs.Sequence.{sequence}
use Rattle.wy_reading.proofs.Choice.{choice}
use Rattle.wy_reading.proofs.Repetition.{repetition}
use Rattle.wy_reading.proofs.Adapting.{adapt}
use Rattle.wy_reading.proofs.Bars.{unless-exact}
use Rattle.wy_ast.specs.declared.expressions.Expr.{Expr}
use Rattle.wy_ast.specs.declared.expressions.ExprKind.TheVariants as e
use Rattle.wy_lex.specs.declared.token.Token.{Token}
use Rattle.wy_lex.specs.declared.token.TokenKind.TheVariants as k
use Rattle.wy_parse_grammar.specs.declared.sort.Class.TheVariants as class
use Rattle.wy_parse_grammar.specs.Sorts as t
use Rattle.wy_parse_grammar.specs.Sorts.{is, has, members}
use Rattle.wy_parse_grammar.specs.ExprGrammar.{touches, opposite, literal_kind}
use Rattle.wy_parse_grammar.specs.LabelGrammar as rule
use Rattle.wy_parse_grammar.specs.LabelReading as read
use Rattle.wy_parse_grammar.proofs.TokenLemmas.{some, no}
use Rattle.wy_parse_grammar.proofs.StepsExact.{mark-exact, token-exact}
use Rattle.wy_parse_grammar.proofs.ExprsExact.{glued-exact}

numeral : Token
numeral = some (k.Numeral (pos 0))

opposed-exact : {n : Mode} {F : List Token → Type 0} → Exact n rule.Opposed (λ m. read.opposed) F (Passes (is t.NUMERAL))
unfolding read.opposed
opposed-exact = token-exact (is t.NUMERAL) (λ s. opposite s.kind) (some (k.Numeral (pos 0))) refl

-- a numeral at the front of a text touches no minus
apart_from : (place : ℕ) (z : List Token) → Lacks (touches place) (numeral ∷ z)
unfolding numeral
apart_from place z = ne_eqb 0 (place + 1) (λ h. absurd (omega (arith, h)))

opposed-reads : (z : List Token) → read.opposed (numeral ∷ z) ≡ Ok (pos 0, z)
unfolding read.opposed numeral
opposed-reads z = refl

negative-exact : (n : Mode) (place : ℕ) → Exact n (rule.Negative place) (λ m. read.negative place) Any Any
unfolding read.negative numeral
negative-exact n place =
    adapt (choice (touches place) (glued-exact {F = Any} place)
    (unless-exact n (touches place) rule.Opposed (λ m. read.opposed) (λ a. Any) (Passes (is t.NUMERAL)) (λ a. ⊤) (opposed-exact {F = Any})
    (record { text = numeral ∷ []; made = pos 0; wanted = tt; deep = 0; alive = λ m le deep z f. opposed-reads z; starts = λ z f. begins z })
    (λ z f. apart_from place z) (λ a. tt) (λ h. absurd (true≢false (sym h))))
    (λ i h. h) (λ i h. h.1))
    (λ i f. f) (λ i h. tt) (λ a p. tt)
  where
    begins : (z : List Token) → Passes (is t.NUMERAL) (numeral ∷ z)
    begins z = refl

label-exact : (n : Mode) (ls : List Expr) → Exact n (rule.Label ls) (λ m. read.label ls) Any Any
unfolding read.label read.label_word
label-exact n ls =
    adapt (choice (is t.MINUS)
    (sequence (mark-exact {F = Any} t.MINUS (some k.Minus) refl)
    (λ place. sequence (negative-exact n place) (λ c. nothing (ls ++ (record { at = place; kind = e.Int c }) ∷ [])) (λ i h. tt)) (λ i h. tt))
    (sequence (token-exact {F = Any} (has class.LabelWord) (λ s. record { at = s.at; kind = literal_kind s.kind }) (some k.Null) refl)
    (λ l. nothing (ls ++ l ∷ [])) (λ i h. tt))
    (λ i h. h) (λ i h. no t.MINUS (members class.LabelWord) i refl h))
    (λ i f. f) (λ i h. tt) (λ a p. tt)

next_label-exact : (n : Mode) (ls : List Expr) → Exact n (rule.NextLabel ls) (λ m. read.next_label ls) Any (Passes (is t.COMMA))
next_label-exact n ls = sequence (mark-exact {F = Any} t.COMMA (some k.Comma) refl) (λ r. label-exact n ls) (λ i h. tt)

pub labels-exact : (n : Mode) → Exact n rule.Labels (λ m. read.labels) (Lacks (is t.COMMA)) Any
unfolding read.labels rule.Labels
labels-exact n =
    sequence (label-exact n []) (λ ls. repetition (is t.COMMA) (next_label-exact n) (λ i h. h) (λ i f. f) (λ i f. tt) (λ i h. tt) refl ls) (λ i h. tt)
