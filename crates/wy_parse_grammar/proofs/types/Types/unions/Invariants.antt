use Rattle.std.proofs.Common.{◌≡◌, ◌-◌}
use Rattle.wy_reading.specs.Reader.{loop}
use Rattle.wy_parse_grammar.specs.Sorts.{is, has}
use Rattle.wy_parse_grammar.specs.Sorts as t
use Rattle.wy_parse_grammar.specs.TypeReading as spec
use Rattle.wy_parse_grammar.proofs.types.Types.unions.Given as goal

-- what the loop still reads completes what it made
abbrev pub invariant-loop-turn : goal.invariant-loop-turn
invariant-loop-turn g l = spec.unions l.self.levels (spec.tight l.self.levels) l.fn.left l.fn.tokens ≡ loop (is t.BAR) (spec.or_inter l.self.levels (spec.tight l.self.levels)) (l._turn-end - l._turn) l.made l.rest
