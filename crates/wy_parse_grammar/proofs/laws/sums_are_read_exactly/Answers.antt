use Rattle.std.proofs.Common.{refl}
use Rattle.wy_reading.specs.Mode.{Mode}
use Rattle.wy_reading.specs.Rule.{Whole}
use Rattle.wy_reading.specs.Reader.{whole}
use Rattle.wy_reading.proofs.Exactness.{Exact}
use Rattle.wy_reading.proofs.Theorem.{promise, whole_text, whole-closes}
use Rattle.wy_parse_grammar.specs.ExprGrammar.{SumIn, Unary}
use Rattle.wy_parse_grammar.specs.ExprReading.{readers, sum}
use Rattle.wy_parse_grammar.proofs.OperatorsExact.{After, BeginsExpr, after_sum, sum-exact}
use Rattle.wy_parse_grammar.proofs.ExprLevels.{unary-exact, unary_read}
use Rattle.wy_parse_grammar.proofs.laws.sums_are_read_exactly.Goals as goal

exact : (m : Mode) → Exact m (SumIn m.strict m.depth) (λ m. sum (readers m.strict m.depth).unary) (After after_sum) BeginsExpr
unfolding SumIn
exact m = sum-exact m (Unary m.strict m.depth) unary_read (unary-exact m)

pub returns : goal.returns
returns c =
    promise (λ m. Whole (SumIn m.strict m.depth)) (λ m. whole (sum (readers m.strict m.depth).unary)) BeginsExpr (λ m. whole_text (exact m) refl)
    (λ m. whole-closes (SumIn m.strict m.depth))
