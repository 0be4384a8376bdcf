use Rattle.std.proofs.Common.{◌≡◌, ◌-◌, true}
use Rattle.wy_reading.specs.Reader.{loop}
use Rattle.wy_parse_grammar.specs.Sorts.{has}
use Rattle.wy_parse_grammar.specs.declared.sort.Class.TheVariants as class
use Rattle.wy_parse.specs.ProgramReading as spec
use Rattle.wy_parse.proofs.declarations.contract.Given as goal

-- what the loop still reads completes what it made
abbrev pub invariant-loop-turn : goal.invariant-loop-turn
invariant-loop-turn l = spec.contract_of true 101 l.fn.tokens ≡ loop (has class.Clause) (spec.clause true 101) (l._turn-end - l._turn) l.made l.rest
