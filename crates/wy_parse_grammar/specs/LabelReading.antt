-- How the labels of cases are read: each choice is made by the next token.
use Rattle.std.specs.Prelude.{ℕ, ℤ, List, [], ◌∷◌, ◌++◌}
use Rattle.wy_reading.specs.Reader.{◌>>=◌, pure, one, branch, while, unless}
use Rattle.wy_ast.specs.declared.expressions.Expr.{Expr}
use Rattle.wy_ast.specs.declared.expressions.ExprKind.TheVariants as e
use Rattle.wy_parse_grammar.specs.declared.sort.Class.TheVariants as class
use Rattle.wy_parse_grammar.specs.Sorts as t
use Rattle.wy_parse_grammar.specs.Sorts.{has, is}
use Rattle.wy_parse_grammar.specs.Steps.{Q, mark}
use Rattle.wy_parse_grammar.specs.ExprGrammar.{touches, opposite, literal_kind}
use Rattle.wy_parse_grammar.specs.ExprReading.{glued}

unfoldable pub opposed : Q ℤ
opposed = one (is t.NUMERAL) >>= (λ s. pure (opposite s.kind))

unfoldable pub negative : ℕ → Q ℤ
negative at = branch (touches at) (glued at) (unless (touches at) opposed)

unfoldable pub label_word : Q Expr
label_word = one (has class.LabelWord) >>= (λ s. pure (record { at = s.at; kind = literal_kind s.kind }))

unfoldable pub label : List Expr → Q (List Expr)
label ls =
    branch (is t.MINUS) (mark t.MINUS >>= (λ at. negative at >>= (λ n. pure (ls ++ (record { at = at; kind = e.Int n }) ∷ []))))
    (label_word >>= (λ l. pure (ls ++ l ∷ [])))

abbrev pub next_label : List Expr → Q (List Expr)
next_label ls = mark t.COMMA >>= (λ _. label ls)

unfoldable pub labels : Q (List Expr)
labels = label [] >>= (λ ls. while (is t.COMMA) next_label ls)
