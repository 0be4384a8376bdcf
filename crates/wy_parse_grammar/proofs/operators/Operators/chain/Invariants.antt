use Rattle.std.proofs.Common.{◌≡◌, ◌-◌}
use Rattle.wy_reading.specs.Reader.{loop}
use Rattle.wy_parse_grammar.specs.Sorts.{is}
use Rattle.wy_parse_grammar.specs.ExprReading as spec
use Rattle.wy_parse_grammar.proofs.operators.Operators.chain.Given as goal

-- what the loop still reads completes what it made
abbrev pub invariant-loop-turn : goal.invariant-loop-turn
invariant-loop-turn g l = spec.chain l.self.levels (spec.unary l.self.levels) l.sort l.fn.left l.fn.tokens ≡ loop (is l.sort) (spec.connected l.self.levels (spec.unary l.self.levels) l.sort) (l._turn-end - l._turn) l.made l.rest
