-- The grammar of the labels of cases.
--   labels = label { ',' label }
--   label  = 'null' | 'true' | 'false' | NUMERAL | '-' NUMERAL
use Rattle.std.specs.Prelude.{ℕ, ℤ, List, [], ◌∷◌, ◌++◌}
use Rattle.wy_reading.specs.Rule.{One, Pure, Then, Loop, Or, Unless}
use Rattle.wy_ast.specs.declared.expressions.Expr.{Expr}
use Rattle.wy_ast.specs.declared.expressions.ExprKind.TheVariants as e
use Rattle.wy_parse_grammar.specs.declared.sort.Class.TheVariants as class
use Rattle.wy_parse_grammar.specs.Sorts as t
use Rattle.wy_parse_grammar.specs.Sorts.{has, is}
use Rattle.wy_parse_grammar.specs.Steps.{R, Mark}
use Rattle.wy_parse_grammar.specs.ExprGrammar.{touches, opposite, literal_kind, Glued}

abbrev pub Opposed : R ℤ
Opposed = Then (One (is t.NUMERAL)) (λ s. Pure (opposite s.kind))

abbrev pub Negative : ℕ → R ℤ
Negative at = Or (Glued at) (Unless (touches at) Opposed)

abbrev pub LabelWord : R Expr
LabelWord = Then (One (has class.LabelWord)) (λ s. Pure (record { at = s.at; kind = literal_kind s.kind }))

abbrev pub Label : List Expr → R (List Expr)
Label ls =
    Or (Then (Mark t.MINUS) (λ at. Then (Negative at) (λ n. Pure (ls ++ (record { at = at; kind = e.Int n }) ∷ []))))
    (Then LabelWord (λ l. Pure (ls ++ l ∷ [])))

abbrev pub NextLabel : List Expr → R (List Expr)
NextLabel ls = Then (Mark t.COMMA) (λ _. Label ls)

unfoldable pub Labels : R (List Expr)
Labels = Then (Label []) (λ ls. Loop NextLabel ls)
