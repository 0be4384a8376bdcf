use Rattle.std.proofs.Common.{◌⊎◌, refl}
use Rattle.wy_reading.specs.Rule.{Whole}
use Rattle.wy_reading.specs.Reader.{whole}
use Rattle.wy_reading.proofs.Theorem.{promise, whole_text, whole-closes}
use Rattle.wy_parse_grammar.specs.ExprGrammar.{ArgsIn}
use Rattle.wy_parse_grammar.proofs.OperatorsExact.{BeginsExpr}
use Rattle.wy_parse_grammar.proofs.ExprLevels.{args-exact, args_read, AfterArgs}
use Rattle.wy_parse_grammar.proofs.laws.arguments_are_read_exactly.Goals as goal

pub returns : goal.returns
returns c =
    promise (λ m. Whole (ArgsIn m.strict m.depth)) (λ m. whole (args_read m)) (λ i. BeginsExpr i ⊎ AfterArgs i) (λ m. whole_text (args-exact m) (refl, refl))
    (λ m. whole-closes (ArgsIn m.strict m.depth))
