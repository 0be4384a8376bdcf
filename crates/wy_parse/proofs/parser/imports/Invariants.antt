use Rattle.std.proofs.Common.{◌≡◌, ◌-◌}
use Rattle.wy_reading.specs.Reader.{loop}
use Rattle.wy_parse_grammar.specs.Sorts.{is, has}
use Rattle.wy_parse_grammar.specs.Sorts as t
use Rattle.wy_parse.specs.ProgramReading as spec
use Rattle.wy_parse.proofs.parser.imports.Given as goal

-- what the loop still reads completes what it made
abbrev pub invariant-loop-turn : goal.invariant-loop-turn
invariant-loop-turn l = spec.imports l.fn.tokens ≡ loop (is t.IMPORT) spec.import (l._turn-end - l._turn) l.made l.rest
