use Rattle.std.proofs.Common.{◌≡◌, ◌-◌}
use Rattle.wy_reading.specs.Reader.{loop}
use Rattle.wy_parse_grammar.specs.Sorts.{is, has}
use Rattle.wy_parse_grammar.specs.Sorts as t
use Rattle.wy_parse_grammar.specs.TypeReading as spec
use Rattle.wy_parse_grammar.proofs.types.suffixes.Given as goal

-- what the loop still reads completes what it made
abbrev pub invariant-loop-turn : goal.invariant-loop-turn
invariant-loop-turn l = spec.suffixes l.levels l.fn.item l.fn.tokens ≡ loop (is t.OPEN_BRACKET) (spec.brackets l.levels) (l._turn-end - l._turn) l.made l.rest
