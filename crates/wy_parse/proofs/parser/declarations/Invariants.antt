use Rattle.std.proofs.Common.{◌≡◌, ◌-◌, true}
use Rattle.wy_reading.specs.Reader.{loop}
use Rattle.wy_parse_grammar.specs.Sorts.{has}
use Rattle.wy_parse_grammar.specs.declared.sort.Class.TheVariants as class
use Rattle.wy_parse.specs.ProgramReading as spec
use Rattle.wy_parse.specs.BlockReading.{block_at}
use Rattle.wy_parse.proofs.parser.declarations.Given as goal

-- what the loop still reads completes what it made
abbrev pub invariant-loop-turn : goal.invariant-loop-turn
invariant-loop-turn l = spec.decls true 101 l.fn.tokens ≡ loop (has class.Declaration) (spec.next_decl true (spec.declaration true 101 (block_at 100))) (l._turn-end - l._turn) l.made l.rest
