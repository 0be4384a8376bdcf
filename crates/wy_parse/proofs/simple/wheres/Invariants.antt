use Rattle.std.proofs.Common.{◌≡◌, ◌-◌, true}
use Rattle.wy_reading.specs.Reader.{loop}
use Rattle.wy_parse_grammar.specs.Sorts.{is, has}
use Rattle.wy_parse_grammar.specs.Sorts as t
use Rattle.wy_parse.specs.StmtReading as spec
use Rattle.wy_parse.proofs.simple.wheres.Given as goal

-- what the loop still reads completes what it made
abbrev pub invariant-loop-turn : goal.invariant-loop-turn
invariant-loop-turn l = spec.wheres true l.levels l.fn.clauses l.fn.tokens ≡ loop (is t.WHERE) (spec.where_clause true l.levels) (l._turn-end - l._turn) l.made l.rest
