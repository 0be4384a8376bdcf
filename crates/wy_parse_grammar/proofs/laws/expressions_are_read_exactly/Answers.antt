use Rattle.std.proofs.Common.{refl}
use Rattle.wy_reading.specs.Rule.{Whole}
use Rattle.wy_reading.specs.Reader.{whole}
use Rattle.wy_reading.proofs.Theorem.{promise, whole_text, whole-closes}
use Rattle.wy_parse_grammar.specs.ExprGrammar.{Expr_}
use Rattle.wy_parse_grammar.specs.ExprReading.{readers}
use Rattle.wy_parse_grammar.proofs.OperatorsExact.{BeginsExpr}
use Rattle.wy_parse_grammar.proofs.ExprLevels.{expr-exact}
use Rattle.wy_parse_grammar.proofs.laws.expressions_are_read_exactly.Goals as goal

pub returns : goal.returns
returns c =
    promise (λ m. Whole (Expr_ m.strict m.depth)) (λ m. whole (readers m.strict m.depth).expr) BeginsExpr (λ m. whole_text (expr-exact m) refl)
    (λ m. whole-closes (Expr_ m.strict m.depth))
