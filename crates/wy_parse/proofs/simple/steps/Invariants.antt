use Rattle.std.proofs.Common.{◌≡◌, ◌-◌, true}
use Rattle.wy_reading.specs.Reader.{loop}
use Rattle.wy_parse_grammar.specs.Sorts.{has}
use Rattle.wy_parse_grammar.specs.declared.sort.Class.TheVariants as class
use Rattle.wy_parse.specs.StmtReading as spec
use Rattle.wy_parse.proofs.simple.steps.Given as goal

-- what the loop still reads completes what it made
abbrev pub invariant-loop-turn : goal.invariant-loop-turn
invariant-loop-turn l = spec.steps true l.levels l.fn.path l.fn.tokens ≡ loop (has class.Step) (spec.step true l.levels) (l._turn-end - l._turn) l.made l.rest
