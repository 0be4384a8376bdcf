use Rattle.std.proofs.Common.{◌≡◌, ◌-◌}
use Rattle.wy_reading.specs.Reader.{loop}
use Rattle.wy_parse_grammar.specs.Sorts.{has}
use Rattle.wy_parse_grammar.specs.declared.sort.Class.TheVariants as class
use Rattle.wy_parse_grammar.specs.ExprReading as spec
use Rattle.wy_parse_grammar.proofs.expressions.Inside.steps.Given as goal

-- what the loop still reads completes what it made
abbrev pub invariant-loop-turn : goal.invariant-loop-turn
invariant-loop-turn g l = spec.steps l.self.levels (spec.unary l.self.levels) (spec.expr l.self.levels) l.fn.first l.fn.tokens ≡ loop (has class.Step) (spec.step l.self.levels (spec.unary l.self.levels) (spec.expr l.self.levels)) (l._turn-end - l._turn) l.made l.rest
