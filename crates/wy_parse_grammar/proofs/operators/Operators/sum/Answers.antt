use Rattle.std.proofs.Common.{arith, rules}
use Rattle.wy_parse_grammar.specs.Sorts.{has}
use Rattle.wy_parse_grammar.specs.declared.sort.Class.TheVariants as class
use Rattle.wy_parse_grammar.specs.ExprReading as spec
use Rattle.wy_parse_grammar.proofs.StepLemmas.{turn_stops}
use Rattle.wy_parse_grammar.proofs.operators.Operators.sum.Goals as goal

pub returns-in_err-more : goal.returns-in_err-more
returns-in_err-more g c =
    turn_stops (has class.Summand) (spec.summand (spec.unary c.args.self.now.levels)) _ c.loop-turn.made c.loop-turn.rest.now _ c.in_err-more.field-0.0 c.from_residual-in_err-more.result
    (search rules) c.loop-turn.invariant (omega arith) (search rules) c.in_err-more.ensures
