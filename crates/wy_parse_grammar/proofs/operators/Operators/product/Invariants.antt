use Rattle.std.proofs.Common.{◌≡◌, ◌-◌}
use Rattle.wy_reading.specs.Reader.{loop}
use Rattle.wy_parse_grammar.specs.Sorts.{has}
use Rattle.wy_parse_grammar.specs.declared.sort.Class.TheVariants as class
use Rattle.wy_parse_grammar.specs.ExprReading as spec
use Rattle.wy_parse_grammar.proofs.operators.Operators.product.Given as goal

-- what the loop still reads completes what it made
abbrev pub invariant-loop-turn : goal.invariant-loop-turn
invariant-loop-turn g l = spec.product (spec.unary l.self.levels) l.fn.tokens ≡ loop (has class.Factor) (spec.factor (spec.unary l.self.levels)) (l._turn-end - l._turn) l.made l.rest
