use Rattle.std.proofs.Common.{◌≡◌, ◌-◌}
use Rattle.wy_reading.specs.Reader.{loop}
use Rattle.wy_parse_grammar.specs.Sorts.{is, has}
use Rattle.wy_parse_grammar.specs.Sorts as t
use Rattle.wy_parse_grammar.specs.ExprReading as spec
use Rattle.wy_parse_grammar.proofs.expressions.Inside.fields.Given as goal

-- what the loop still reads completes what it made
abbrev pub invariant-loop-turn : goal.invariant-loop-turn
invariant-loop-turn g l = spec.field_list l.self.levels (spec.unary l.self.levels) (spec.expr l.self.levels) l.fn.tokens ≡ loop (is t.COMMA) (spec.next_field l.self.levels (spec.unary l.self.levels) (spec.expr l.self.levels)) (l._turn-end - l._turn) l.made l.rest
